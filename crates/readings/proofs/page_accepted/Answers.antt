-- The table is filled; past the refusals of the number the scripts of the numbers that are left are written by it.
use mathlib.Core.Path.{refl}
use mathlib.Core.List.{List, ◌++◌}
use Prim.Native.Nat.{ℕ}
use native.Mathlib.Omega.{arith}
use Rattle.image.specs.Refusal.{Row, First}
use Rattle.image.proofs.Refusals.{past_zero}
use Rattle.image.proofs.Outcomes.{passed_on, never_zero}
use Rattle.readings.specs.Reading.{lent_rows}
use Rattle.readings.specs.Exact.{Lendable}
use Rattle.readings.proofs.Refuses.{lent_passes, late_fills, fills_name, number_ok}
use Rattle.readings.proofs.Pages.{page_fits, page_told}
use Rattle.readings.proofs.page_accepted.Goals as goal

-- past the refusals of the record and of what is lent, those of the number decide
late : (b : List ℕ) (n size need space : ℕ) → Lendable b n size need space → (more : List Row) (r : ℕ) → First more r → First (lent_rows b n size need space ++ more) r
late b n size need space o more r p =
    past_zero (lent_rows b n size need space) more (omega arith) 0 refl (lent_passes b n size need space o.count.image o.count.few o.count.fits o.fits) p

pub returns-in_err-test_number : goal.returns-in_err-test_number
returns-in_err-test_number c =
    let z = never_zero c.in_err-test_number.field-0.0 in
    let p = c.in_err-test_number.ensures.number _ c.total_in-total.ensures in
    rw (passed_on _ _ c.from_residual.ensures.1)
    (record {
      refusal = late _ _ _ _ _ c.requires _ _ p;
      rule = rw c.in_err-test_number.ensures.rule (fills_name _ (late_fills _ p));
      filled = λ _. c.fill_table.ensures;
      kept = λ h. absurd (h (late_fills _ p));
      answered = λ e. absurd (z e);
      refused = λ _. refl;
      written = λ e. absurd (z e);
      unwritten = λ _. refl;
    })

pub write_page-requires-clause-events_len_bound : goal.write_page-requires-clause-events_len_bound
write_page-requires-clause-events_len_bound c =
    let l = number_ok _ _ _ refl (c.in_ok-test_number.ensures.number _ c.total_in-total.ensures) (omega (arith, c.ranges.k)) in
    (page_fits _ _ _ _ _ _ _ c.total_in-total.ensures l.0 l.1 c.min-written.ensures c.requires.count.few c.requires.fits).0

pub returns : goal.returns
returns c =
    let p = c.in_ok-test_number.ensures.number _ c.total_in-total.ensures in
    record {
      refusal = late _ _ _ _ _ c.requires _ _ p;
      rule = fills_name _ (late_fills _ p);
      filled = λ _. c.fill_table.ensures;
      kept = λ h. absurd (h (late_fills _ p));
      answered = λ _. page_told _ _ _ _ _ c.total_in-total.ensures c.min-written.ensures;
      refused = λ y. absurd (y refl);
      written = λ _. c.write_page.ensures;
      unwritten = λ y. absurd (y refl);
    }
