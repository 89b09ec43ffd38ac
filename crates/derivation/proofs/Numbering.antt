-- `derivations` numbers the derivations of [A, i, k] and `readings` the readings, and no other list does; `known` tells whether there is
-- a derivation, and no other number does.
-- Assumes nothing.
use mathlib.Core.Path.{◌≡◌, sym, ap, subst, subst₂, ◌∙◌}
use mathlib.Core.Logic.{⊎_elim}
use mathlib.Core.List.{List, [], ◌∷◌}
use Prim.Native.Nat.{ℕ, suc, ◌≤◌, ◌<◌}
use native.Mathlib.Nat.{zero-lt-suc, eq-or-lt_of_le}
use native.Mathlib.Omega.{arith}
use native.Mathlib.Decide.{dec_lt, ℕ_discrete}
use lib.ListN.{length, get_or}
use Rattle.bits.proofs.Truths.{lt_or_ge}
use Rattle.derivation.specs.Grammar.{Grammar}
use Rattle.derivation.specs.Order.{Before}
use Rattle.derivation.specs.Tree.{Derives, Derivable, script}
use Rattle.derivation.specs.Reading.{quiet, Reads, spelling, IsReading}
use Rattle.derivation.specs.Numbering.{none, Numbers, NumbersReadings, NumbersDerivations, Tells, Telling}
use Rattle.derivation.specs.Derivations.{derivations, readings, NumberOf, known}
use Rattle.derivation.proofs.Lists.{◌∈◌, in_get_d, place_of_is}
use Rattle.derivation.proofs.Orders.{By, not_before_self, before_asym, Rising, rising_at, rising_unique}
use Rattle.derivation.proofs.Exact.{derivations_sound, derivations_complete}
use Rattle.derivation.proofs.Rising.{derivations_rising}
use Rattle.derivation.proofs.Readings.{readings_sound, readings_complete, readings_rising}
use Rattle.derivation.proofs.Counts.{known_lt, known_of, of_known}

-- ---- a list of just what Is holds of that rises by the scripts numbers it, and there is one only
module _ {X : Type 0} (Is : X → Type 0) (scriptOf : X → List ℕ) (past : X) where
  abbrev Earlier : X → X → Type 0
  Earlier = By scriptOf

  abbrev RisesAt : List X → Type 0
  RisesAt l = (p q : ℕ) → p < q → q < length l → Earlier (get_or l p past) (get_or l q past)

  rising_of : (l : List X) → RisesAt l → Rising Earlier l
  rising_of [] h = tt
  rising_of (x ∷ xs) h = (
    λ y m.
        let q = place_of_is past xs m in
        subst (Earlier x) q.2 (h 0 (suc q.0) (zero-lt-suc q.0) (omega (arith, q.1))),
    rising_of xs (λ a b p q. h (suc a) (suc b) (omega arith) (omega arith)),
  )

  -- no two places have the same script
  place_once : (l : List X) → RisesAt l → (p q : ℕ) → p < length l → q < length l → scriptOf (get_or l p past) ≡ scriptOf (get_or l q past) → p ≡ q
  place_once l rise p q h k e =
      elim (dec_lt p q) [
        | yes a ↦ absurd (not_before_self (subst (λ (s : List ℕ). Before s (scriptOf (get_or l q past))) e (rise p q a k)))
        | no a ↦
            elim (dec_lt q p) [
              | yes b ↦ absurd (not_before_self (subst (λ (s : List ℕ). Before s (scriptOf (get_or l p past))) (sym e) (rise q p b h)))
              | no b ↦ omega arith
            ]
      ]

  numbers_of : (l : List X) → ((x : X) → x ∈ l → Is x) → ((x : X) → Is x → x ∈ l) → Rising Earlier l → Numbers Is scriptOf past l
  numbers_of l sound complete r =
      let rise : RisesAt l = rising_at Earlier past l r in
      record {
        gives = λ q h. sound (get_or l q past) (in_get_d past l q h);
        numbered = λ x d. place_of_is past l (complete x d);
        earlier = rise;
      }

  within : (l m : List X) → Numbers Is scriptOf past l → Numbers Is scriptOf past m → (x : X) → x ∈ l → x ∈ m
  within l m p q x h =
      let a = place_of_is past l h in
      let b = q.numbered x (subst Is a.2 (p.gives a.0 a.1)) in
      subst (λ (y : X). y ∈ m) b.2 (in_get_d past m b.0 b.1)

  pub numbers_only : (l m : List X) → Numbers Is scriptOf past l → Numbers Is scriptOf past m → l ≡ m
  numbers_only l m p q =
      rising_unique Earlier (λ x y. before_asym) l m (rising_of l p.earlier) (rising_of m q.earlier) (within l m p q) (within m l q p)

module _ (g : Grammar) (w : List ℕ) where
  -- ---- demand 3: the readings, the quiet one among them
  pub readings_numbered : NumbersReadings g w (readings g w)
  readings_numbered = numbers_of (Reads g w) spelling quiet (readings g w) (readings_sound g w) (readings_complete g w) (readings_rising g w)

  -- a script has a number exactly when it is a reading's, and one only
  pub number_of : (s : List ℕ) → IsReading g w s → (q : ℕ) × NumberOf g w s q
  number_of s p =
      let n = readings_numbered.numbered p.reading p.reads in
      (n.0, record { below = n.1; spelt = ap spelling n.2 ∙ p.spelt })

  pub of_number : (s : List ℕ) (q : ℕ) → NumberOf g w s q → IsReading g w s
  of_number s q n = record { reading = get_or (readings g w) q quiet; reads = readings_numbered.gives q n.below; spelt = n.spelt }

  pub number_once : (s : List ℕ) (p q : ℕ) → NumberOf g w s p → NumberOf g w s q → p ≡ q
  number_once s p q a b = place_once (Reads g w) spelling quiet (readings g w) readings_numbered.earlier p q a.below b.below (a.spelt ∙ sym b.spelt)

  -- and an earlier script has a smaller one
  pub number_before : (s t : List ℕ) (p q : ℕ) → NumberOf g w s p → NumberOf g w t q → Before s t → p < q
  number_before s t p q a b h =
      ⊎_elim (λ (l : p < q). l) (λ (l : q ≤ p). absurd (not_later l)) (lt_or_ge p q)
    where
      later : q < p → Before t s
      later l = subst₂ Before b.spelt a.spelt (readings_numbered.earlier q p l a.below)

      not_later : q ≤ p → ⊥
      not_later l =
          ⊎_elim (λ (e : q ≡ p). not_before_self (subst (Before s) (sym b.spelt ∙ ap (λ (x : ℕ). spelling (get_or (readings g w) x quiet)) e ∙ a.spelt) h))
          (λ (m : q < p). before_asym h (later m)) (eq-or-lt_of_le l)

  -- ---- the derivations of [A, i, k]
  pub derivations_numbered : (A i k : ℕ) → NumbersDerivations g w A i k (derivations g w A i k)
  derivations_numbered A i k =
      numbers_of (Derives g w A i k) script none (derivations g w A i k) (λ t m. derivations_sound g w A i k m) (derivations_complete g w A i k)
      (derivations_rising g w A i k)

  pub derivation_once : (A i k p q : ℕ) → p < length (derivations g w A i k) → q < length (derivations g w A i k)
      → get_or (derivations g w A i k) p none ≡ get_or (derivations g w A i k) q none → p ≡ q
  derivation_once A i k p q h l e =
      place_once (Derives g w A i k) script none (derivations g w A i k) (derivations_numbered A i k).earlier p q h l (ap script e)

  -- ---- whether there is one
  pub known_tells : (A i k : ℕ) → Tells g w A i k (known g w i k A)
  known_tells A i k = record {
    yes = known_of g w A i k;
    no = λ n. elim (ℕ_discrete (known g w i k A) 1) [ yes e ↦ absurd (n (of_known g w A i k e)) | no e ↦ below_two (known_lt g w A i k) e ];
  }
    where
      below_two : {x : ℕ} → x < 2 → (x ≡ 1 → ⊥) → x ≡ 0
      below_two {x} l e = omega arith

  pub tells_only : (A i k x : ℕ) → Tells g w A i k x → x ≡ known g w i k A
  tells_only A i k x t =
      elim (ℕ_discrete (known g w i k A) 1) [
        | yes e ↦ t.yes (of_known g w A i k e) ∙ sym e
        | no e ↦ let n : Derivable g w A i k → ⊥ = λ d. e (known_of g w A i k d) in t.no n ∙ sym ((known_tells A i k).no n)
      ]

  pub known_telling : Telling g w (known g w)
  known_telling = record { at = known_tells }

  pub telling_only : (s : (i k A : ℕ) → ℕ) → Telling g w s → (i k A : ℕ) → s i k A ≡ known g w i k A
  telling_only s t i k A = tells_only A i k (s i k A) (t.at A i k)
