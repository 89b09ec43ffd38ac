-- Each service's contract admits one outcome only: the answer and every lent word.
-- Assumes nothing.
use mathlib.Core.Path.{◌≡◌, refl, sym, ◌∙◌, subst}
use mathlib.Core.Logic.{inl, inr, ⊎_elim}
use mathlib.Core.List.{List}
use Prim.Native.Nat.{ℕ, ◌<◌}
use native.Mathlib.Decide.{ℕ_discrete}
use Rattle.bits.proofs.Truths.{decides_only}
use Rattle.derivation.specs.Reading.{IsReading}
use Rattle.derivation.proofs.Numbering.{number_once}
use Rattle.layout.specs.Layout.{decode}
use Rattle.image.proofs.Refusals.{first_only}
use Rattle.image.proofs.Named.{names_same}
use Rattle.table.proofs.Tables.{filled_only}
use Rattle.readings.specs.Answer.{Counted}
use Rattle.readings.specs.Answer.{Read}
use Rattle.readings.specs.Answer.{Paged}
use Rattle.readings.specs.Answer.{Checked}
use Rattle.readings.specs.Answer.{Found}
use Rattle.readings.specs.Count.{how_many, CountIs}
use Rattle.readings.specs.Reading.{number_rows, Fills, ReadingIs}
use Rattle.readings.specs.Page.{PageIs}
use Rattle.readings.specs.Check.{CheckIs}
use Rattle.readings.specs.Number.{script_rows, NumberIs}
use Rattle.readings.proofs.Refuses.{count_ok, lent_ok, early_past, count_early, lent_early}

counted_eq : (r s : Counted) → r.refusal ≡ s.refusal → r.rule ≡ s.rule → r.total ≡ s.total → r ≡ s
counted_eq r s e m f = λ i. record { refusal = e i; rule = m i; total = f i }

read_eq : (r s : Read) → r.refusal ≡ s.refusal → r.rule ≡ s.rule → r ≡ s
read_eq r s e m = λ i. record { refusal = e i; rule = m i }

paged_eq : (r s : Paged) → r.refusal ≡ s.refusal → r.rule ≡ s.rule → r.written ≡ s.written → r ≡ s
paged_eq r s e m f = λ i. record { refusal = e i; rule = m i; written = f i }

checked_eq : (r s : Checked) → r.refusal ≡ s.refusal → r.rule ≡ s.rule → r.yes ≡ s.yes → r ≡ s
checked_eq r s e m f = λ i. record { refusal = e i; rule = m i; yes = f i }

found_eq : (r s : Found) → r.refusal ≡ s.refusal → r.rule ≡ s.rule → r.reading ≡ s.reading → r ≡ s
found_eq r s e m f = λ i. record { refusal = e i; rule = m i; reading = f i }

pub count_only : (b w before : List ℕ) (r s : Counted) (t u : List ℕ) → CountIs b w before r t → CountIs b w before s u → (r ≡ s) × (t ≡ u)
count_only b w before r s t u p q = go (ℕ_discrete r.refusal 0)
  where
    e : r.refusal ≡ s.refusal
    e = first_only p.refusal q.refusal

    m : r.rule ≡ s.rule
    m = names_same e p.rule q.rule

    go : Dec (r.refusal ≡ 0) → (r ≡ s) × (t ≡ u)
    go (yes z) =
        let x = p.answered z in
        let y = q.answered (sym e ∙ z) in (
          counted_eq r s e m (x.total ∙ sym y.total),
          filled_only (decode b) w before t u (count_ok b _ _ _ z p.refusal).image.sound.range.some x.table y.table,
        )
    go (no z) =
        let x = p.refused z in
        let y = q.refused (λ f. z (e ∙ f)) in
        (counted_eq r s e m (x.total ∙ sym y.total), x.kept ∙ sym y.kept)

pub fills? : (n : ℕ) → Dec (Fills n)
fills? n = elim (ℕ_discrete n 0) [
  | yes a ↦ yes (inl a)
  | no a ↦ elim (ℕ_discrete n 12) [
    | yes b ↦ yes (inr (inl b))
    | no b ↦ elim (ℕ_discrete n 13) [ yes c ↦ yes (inr (inr c)) | no c ↦ no (⊎_elim a (⊎_elim b c)) ]
  ]
]

pub reading_only : (b w : List ℕ) (k : ℕ) (table room : List ℕ) (r s : Read) (t u o v : List ℕ)
    → ReadingIs b w k table room r t o → ReadingIs b w k table room s u v → (r ≡ s) × (t ≡ u) × (o ≡ v)
reading_only b w k table room r s t u o v p q = (read_eq r s e (names_same e p.rule q.rule), tables (fills? r.refusal), rooms (ℕ_discrete r.refusal 0))
  where
    e : r.refusal ≡ s.refusal
    e = first_only p.refusal q.refusal

    -- a reading that gets as far as the table has an image with a symbol
    some : Fills r.refusal → 0 < (decode b).symbols
    some h = (lent_ok b _ _ _ _ 0 refl (early_past _ (lent_early b _ _ _ _) (number_rows k (how_many (decode b) w)) r.refusal h p.refusal)).count.image.sound.range.some

    tables : Dec (Fills r.refusal) → t ≡ u
    tables (yes h) = filled_only (decode b) w table t u (some h) (p.filled h) (q.filled (subst Fills e h))
    tables (no h) = p.kept h ∙ sym (q.kept (λ f. h (subst Fills (sym e) f)))

    rooms : Dec (r.refusal ≡ 0) → o ≡ v
    rooms (yes z) = p.written z ∙ sym (q.written (sym e ∙ z))
    rooms (no z) = p.unwritten z ∙ sym (q.unwritten (λ f. z (e ∙ f)))

pub page_only : (b w : List ℕ) (k m : ℕ) (table room : List ℕ) (r s : Paged) (t u o v : List ℕ)
    → PageIs b w k m table room r t o → PageIs b w k m table room s u v → (r ≡ s) × (t ≡ u) × (o ≡ v)
page_only b w k m table room r s t u o v p q = (paged_eq r s e (names_same e p.rule q.rule) c, tables (fills? r.refusal), rooms (ℕ_discrete r.refusal 0))
  where
    e : r.refusal ≡ s.refusal
    e = first_only p.refusal q.refusal

    c : r.written ≡ s.written
    c = elim (ℕ_discrete r.refusal 0) [
      | yes z ↦ p.answered z ∙ sym (q.answered (sym e ∙ z))
      | no z ↦ p.refused z ∙ sym (q.refused (λ f. z (e ∙ f)))
    ]

    some : Fills r.refusal → 0 < (decode b).symbols
    some h = (lent_ok b _ _ _ _ 0 refl (early_past _ (lent_early b _ _ _ _) (number_rows k (how_many (decode b) w)) r.refusal h p.refusal)).count.image.sound.range.some

    tables : Dec (Fills r.refusal) → t ≡ u
    tables (yes h) = filled_only (decode b) w table t u (some h) (p.filled h) (q.filled (subst Fills e h))
    tables (no h) = p.kept h ∙ sym (q.kept (λ f. h (subst Fills (sym e) f)))

    rooms : Dec (r.refusal ≡ 0) → o ≡ v
    rooms (yes z) = p.written z ∙ rw c (sym (q.written (sym e ∙ z)))
    rooms (no z) = p.unwritten z ∙ sym (q.unwritten (λ f. z (e ∙ f)))

pub check_only : (b w s : List ℕ) (r t : Checked) → CheckIs b w s r → CheckIs b w s t → r ≡ t
check_only b w s r t p q = go (ℕ_discrete r.refusal 0)
  where
    e : r.refusal ≡ t.refusal
    e = first_only p.refusal q.refusal

    m : r.rule ≡ t.rule
    m = names_same e p.rule q.rule

    go : Dec (r.refusal ≡ 0) → r ≡ t
    go (yes z) = checked_eq r t e m (decides_only (IsReading (decode b) w s) r.yes t.yes (p.answered z) (q.answered (sym e ∙ z)))
    go (no z) = checked_eq r t e m (p.refused z ∙ sym (q.refused (λ f. z (e ∙ f))))

pub number_only : (b w s table : List ℕ) (r x : Found) (t u : List ℕ) → NumberIs b w s table r t → NumberIs b w s table x u → (r ≡ x) × (t ≡ u)
number_only b w s table r x t u p q = (found_eq r x e (names_same e p.rule q.rule) (readings (ℕ_discrete r.refusal 0)), tables (fills? r.refusal))
  where
    e : r.refusal ≡ x.refusal
    e = first_only p.refusal q.refusal

    some : Fills r.refusal → 0 < (decode b).symbols
    some h = (count_ok b _ _ 0 refl (early_past _ (count_early b _ _) (script_rows (decode b) w s) r.refusal h p.refusal)).image.sound.range.some

    tables : Dec (Fills r.refusal) → t ≡ u
    tables (yes h) = filled_only (decode b) w table t u (some h) (p.filled h) (q.filled (subst Fills e h))
    tables (no h) = p.kept h ∙ sym (q.kept (λ f. h (subst Fills (sym e) f)))

    readings : Dec (r.refusal ≡ 0) → r.reading ≡ x.reading
    readings (yes z) = number_once (decode b) w s _ _ (p.answered z) (q.answered (sym e ∙ z))
    readings (no z) = p.refused z ∙ sym (q.refused (λ f. z (e ∙ f)))
