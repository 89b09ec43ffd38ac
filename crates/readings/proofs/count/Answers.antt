-- Past the refusals the table is filled, and by it the readings are counted.
use mathlib.Core.Path.{refl}
use Rattle.readings.proofs.count.Goals as goal

pub returns : goal.returns
returns c =
    let e = c.in_ok-grammar.ensures.bytes in
    let p = c.in_ok-grammar.ensures.tested in
    record {
      refusal = p.refusal;
      rule = p.rule;
      refused = λ z. absurd (z refl);
      answered = λ _. record { total = rw e at c.total_in.ensures; table = rw e at c.fill_table.ensures };
    }
