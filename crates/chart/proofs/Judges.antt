-- Laws of `JudgeIs`: a filled chart gives the answer, and only one outcome meets the record, result and every word of the chart.
-- Assumes nothing.
use mathlib.Core.Path.{◌≡◌, refl, sym, ◌∙◌, subst⁻¹}
use mathlib.Core.Logic.{⊎_elim}
use mathlib.Core.Bool.{Bool}
use mathlib.Core.List.{List}
use Prim.Native.Nat.{ℕ, ◌≤◌, ◌<◌}
use native.Mathlib.Nat.{lt_of_not-le, le_refl}
use native.Mathlib.Decide.{ℕ_discrete, dec_le}
use native.Mathlib.Omega.{arith}
use lib.ListN.{length, get_or}
use lib.Seq.{ext_get_or}
use Rattle.std.specs.declared.result.Result.TheVariants.{Ok, Err}
use Rattle.bits.specs.Truth.{Decides}
use Rattle.bits.proofs.Truths.{decides_as, decides_only, lt_or_ge}
use Rattle.bits.proofs.Words.{same_bits}
use Rattle.derivation.specs.Grammar.{Grammar, pair_rule_count}
use Rattle.derivation.specs.Sound.{Sound}
use Rattle.derivation.specs.Reading.{Admitted}
use Rattle.derivation.specs.Numbering.{Tells, Telling}
use Rattle.derivation.specs.Chart.{cell_at, cells, firings_bound}
use Rattle.derivation.proofs.Readings.{admitted_of, of_admitted, admitted_quiet, quiet_admitted}
use Rattle.derivation.proofs.Counts.{known_of, of_known}
use Rattle.derivation.specs.Derivations.{known}
use Rattle.derivation.proofs.Numbering.{known_tells, tells_only, known_telling}
use Rattle.derivation.proofs.Cells.{items_told, firings_told}
use Rattle.derivation.proofs.Columns.{cell_of}
use Rattle.derivation.proofs.Bound.{firings_le}
use Rattle.layout.specs.Layout.{decode}
use Rattle.image.specs.Refusal.{First}
use Rattle.image.specs.Image.{image_rows, event_rows, record_rows, Names}
use Rattle.image.specs.Answer.{number_of, rule_of}
use Rattle.image.specs.declared.numbered.Refusal.{Refusal}
use Rattle.image.proofs.Refusals.{none, pass, first_only, past_zero}
use Rattle.image.proofs.Images.{accepted_back}
use Rattle.image.proofs.Named.{names_same, names_before}
use Rattle.image.proofs.Outcomes.{never_zero}
use Rattle.chart.specs.declared.Judgement.{Judgement}
use Rattle.chart.specs.Answer.{Judged, judged}
use Rattle.columns.specs.Fill.{Columns, ones_to, TopHas}
use Rattle.chart.specs.Judge.{chart_rows, judge_rows, Shows, Answered, JudgeIs}
use Rattle.chart.specs.Demand.{Judgeable}
use Rattle.chart.proofs.Bridge.{chart_shows, firings_are, items_are}

-- ---- from the columns to the answer
module _ (g : Grammar) (ok : Sound g) (w c₀ c : List ℕ) (m : ℕ) (whole : Columns g w c₀ c (length w) m) where
  shows : Shows g w c
  shows = record { at = λ A i k h l. subst⁻¹ (Tells g w A i k) (chart_shows g w c₀ c m whole A i k h l) (known_tells g w A i k) }

  -- the start symbol in the cell of the whole record, or the flag
  verdict : (ok : Bool) → TopHas g c (length w) ok → Decides ok (Admitted g w)
  verdict ok t = ⊎_elim
      (λ (s : 0 < length w).
      let e = chart_shows g w c₀ c m whole 0 0 (length w) s (le_refl (length w)) in
      decides_as ok (λ h. admitted_of g w (of_known g w 0 0 (length w) (sym e ∙ h))) (λ d. e ∙ known_of g w 0 0 (length w) (of_admitted g w s d)) (t.events s))
      (λ (s : length w ≤ 0). let z : length w ≡ 0 = omega arith in decides_as ok (admitted_quiet g w z) (quiet_admitted g w z) (t.empty z))
      (lt_or_ge 0 (length w))

  pub answer : (r : Judged) → length c ≡ length c₀ → TopHas g c (length w) r.admitted
      → r.items ≡ ones_to c (cells (length w)) → r.firings ≡ m → Answered g w c₀ r c
  answer r l a i f = record {
    chart = shows;
    frame = record { long = l; before = λ y h. absurd (omega arith); after = λ y h. whole.past y (omega arith) };
    admitted = verdict r.admitted a;
    items = λ s t. i ∙ items_are g w c₀ c m whole ok ∙ sym (items_told g w s t);
    firings = λ s t. f ∙ firings_are g w c₀ c m whole ∙ sym (firings_told g w s t);
    bound = subst⁻¹ (λ (x : ℕ). x ≤ firings_bound (length w) g.symbols (pair_rule_count g)) (f ∙ firings_are g w c₀ c m whole) (firings_le g w ok);
  }

-- ---- what a refusal answers, and what success does
module _ (b w c : List ℕ) where
  pub refuses : (e : Refusal) → First (judge_rows b w c) (number_of e) → Names (decode b) (number_of e) (rule_of e) → JudgeIs b w c (judged (Err e)) c
  refuses e p q = record {
    refusal = p;
    rule = q;
    refused = λ _. record { admitted = refl; items = refl; firings = refl; kept = refl };
    answered = λ z. absurd (never_zero e z);
  }

pub answers : (b w c₀ c : List ℕ) (j : Judgement) → First (judge_rows b w c₀) 0 → Answered (decode b) w c₀ (judged (Ok j)) c → JudgeIs b w c₀ (judged (Ok j)) c
answers b w c₀ c j p a = record {
  refusal = p;
  rule = names_before (omega arith) refl;
  refused = λ y. absurd (y refl);
  answered = λ _. a;
}

-- ---- what passes
pub judge_passes : (b w chart : List ℕ) → Judgeable b w chart → First (judge_rows b w chart) 0
judge_passes b w chart j =
    past_zero (record_rows b (length w)) (chart_rows (length w) (length chart)) (omega arith) 0 refl
    (past_zero (image_rows b) (event_rows (length w)) (omega arith) 0 refl (accepted_back b j.image) (pass j.few none)) (pass j.room none)

-- ---- one outcome only
module _ (g : Grammar) (w c d : List ℕ) (p : Shows g w c) (q : Shows g w d) where
  cell_only : (i k : ℕ) → i < k → k ≤ length w → get_or c (cell_at i k) 0 ≡ get_or d (cell_at i k) 0
  cell_only i k h l =
      same_bits _ _ (λ A. tells_only g w A i k _ (p.at A i k h l) ∙ sym (tells_only g w A i k _ (q.at A i k h l)))

  pub shows_only : (y : ℕ) → y < cells (length w) → get_or c y 0 ≡ get_or d y 0
  shows_only y h = let e = cell_of (length w) y h in rw e.is (cell_only e.i e.k e.lt e.le)

judged_eq : (r s : Judged) → r.refusal ≡ s.refusal → r.rule ≡ s.rule → r.admitted ≡ s.admitted → r.items ≡ s.items → r.firings ≡ s.firings → r ≡ s
judged_eq r s a m b c d = λ i. record { refusal = a i; rule = m i; admitted = b i; items = c i; firings = d i }

module _ (b w c₀ : List ℕ) (r s : Judged) (c d : List ℕ) where
  pub chart_only : Answered (decode b) w c₀ r c → Answered (decode b) w c₀ s d → c ≡ d
  chart_only p q = ext_get_or 0 c d (p.frame.long ∙ sym q.frame.long) (λ y l. go y (dec_le (cells (length w)) y))
    where
      go : (y : ℕ) → Dec (cells (length w) ≤ y) → get_or c y 0 ≡ get_or d y 0
      go y (yes h) = p.frame.after y (omega arith) ∙ sym (q.frame.after y (omega arith))
      go y (no h) = shows_only (decode b) w c d p.chart q.chart y (lt_of_not-le h)

  -- the result, and every word of the chart
  pub judge_only : JudgeIs b w c₀ r c → JudgeIs b w c₀ s d → (r ≡ s) × (c ≡ d)
  judge_only p q = go (ℕ_discrete r.refusal 0)
    where
      e : r.refusal ≡ s.refusal
      e = first_only p.refusal q.refusal

      told : Telling (decode b) w (known (decode b) w)
      told = known_telling (decode b) w

      f : r.rule ≡ s.rule
      f = names_same e p.rule q.rule

      go : Dec (r.refusal ≡ 0) → (r ≡ s) × (c ≡ d)
      go (yes z) =
          let x = p.answered z in
          let y = q.answered (sym e ∙ z) in (
            judged_eq r s e f (decides_only (Admitted (decode b) w) r.admitted s.admitted x.admitted y.admitted) (x.items _ told ∙ sym (y.items _ told))
                (x.firings _ told ∙ sym (y.firings _ told)),
            chart_only x y,
          )
      go (no z) =
          let x = p.refused z in
          let y = q.refused (λ n. z (e ∙ n)) in (
            judged_eq r s e f (x.admitted ∙ sym y.admitted) (x.items ∙ sym y.items) (x.firings ∙ sym y.firings),
            x.kept ∙ sym y.kept,
          )
