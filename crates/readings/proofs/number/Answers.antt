-- An early refusal leaves the table as it was; past it the table is filled, the words are checked, and where they are a reading's its number is worked
-- out by the table.
use mathlib.Core.Path.{◌≡◌, refl}
use native.Mathlib.Omega.{arith}
use lib.ListN.{length}
use Rattle.image.proofs.Refusals.{first_hit, past_zero}
use Rattle.image.proofs.Outcomes.{passed_on, never_zero}
use Rattle.table.specs.Table.{limit}
use Rattle.readings.specs.Count.{count_rows}
use Rattle.readings.proofs.Refuses.{count_early, early_keeps, is_number, below_limit, late_fills, fills_name}
use Rattle.readings.proofs.number.Goals as goal

pub returns-in_err-grammar : goal.returns-in_err-grammar
returns-in_err-grammar c =
    let a = c.args in
    let rows = count_rows a.image.now (length a.events.now) (length a.table.now) in
    let z = never_zero c.in_err-grammar.field-0.0 in
    let p = c.in_err-grammar.ensures.tested in
    rw (passed_on _ _ c.from_residual.ensures.1)
    (record {
      refusal = first_hit rows _ z p.refusal;
      rule = p.rule;
      filled = λ f. absurd (early_keeps rows (count_early _ _ _) _ z p.refusal f);
      kept = λ _. refl;
      answered = λ e. absurd (z e);
      refused = λ _. refl;
    })

pub returns : goal.returns
returns c =
    let a = c.args in
    let e = c.in_ok-grammar.ensures.bytes in
    let h = rw e at c.rank_reading-reading.ensures in
    let l : c.rank_reading-reading.result ≡ limit → ⊥ = omega arith in
    let p = below_limit _ _ _ _ h l in
    record {
      refusal = past_zero (count_rows a.image.now (length a.events.now) (length a.table.now)) _ (omega arith) _ refl c.in_ok-grammar.ensures.tested.refusal p;
      rule = fills_name _ (late_fills _ p);
      filled = λ _. rw e at c.fill_table.ensures;
      kept = λ k. absurd (k (late_fills _ p));
      answered = λ _. is_number _ _ _ _ h l;
      refused = λ z. absurd (z refl);
    }
