-- An early refusal leaves table and room as they were; past all of them only the number can refuse.
use mathlib.Core.Path.{refl}
use lib.ListN.{length}
use Prim.Native.Nat.{◌*◌}
use Rattle.derivation.specs.Tree.{script_word_count}
use Rattle.image.proofs.Refusals.{first_hit}
use Rattle.image.proofs.Outcomes.{passed_on, never_zero}
use Rattle.readings.specs.Reading.{lent_rows}
use Rattle.readings.proofs.Refuses.{lent_early, early_keeps}
use Rattle.readings.proofs.page.Goals as goal

pub returns-in_err-grammar : goal.returns-in_err-grammar
returns-in_err-grammar c =
    let a = c.args in
    let n = length a.events.now in
    let rows = lent_rows a.image.now n (length a.table.now) (a.m * script_word_count n) (length a.room.now) in
    let z = never_zero c.in_err-grammar.field-0.0 in
    let p = c.in_err-grammar.ensures.tested in
    rw (passed_on _ _ c.from_residual.ensures.1)
    (record {
      refusal = first_hit rows _ z p.refusal;
      rule = p.rule;
      filled = λ f. absurd (early_keeps rows (lent_early _ _ _ _ _) _ z p.refusal f);
      kept = λ _. refl;
      answered = λ e. absurd (z e);
      refused = λ _. refl;
      written = λ e. absurd (z e);
      unwritten = λ _. refl;
    })
