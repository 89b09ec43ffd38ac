-- The pair rules along marks: the rules' matches are the splits at which both their symbols stand, and a symbol that is not seen has none.
-- Assumes nothing.
use mathlib.Core.Path.{◌≡◌, refl, sym, ap, ap₂, ◌∙◌}
use mathlib.Core.List.{List}
use Prim.Native.Nat.{ℕ, zero, suc, ◌+◌, ◌*◌, ◌^◌, ◌≤◌, ◌<◌, max, min}
use native.Mathlib.Nat.{mul_assoc, mul-zero, zero-mul, one-mul, zero-add}
use native.Mathlib.Decide.{ℕ_discrete}
use native.Mathlib.Omega.{arith}
use Rattle.bits.specs.Truth.{same}
use Rattle.bits.specs.Bit.{bit}
use Rattle.bits.proofs.Truths.{same_other}
use Rattle.bits.proofs.Sums.{sum_cong, sum_zero, sum_le, sum_at, product_le}
use Rattle.bits.proofs.Bits.{bit_lt, bit_of_zero, bit_one}
use Rattle.derivation.specs.Grammar.{Grammar, pair_rule_count, pair_rule}
use lib.Bits.{bit_and}
use Rattle.groups.specs.declared.Groups.{Groups}
use Rattle.groups.specs.Group.{group_needs, Grouped}
use Rattle.marks.specs.Mark.{stands, meetings, Apart, SeenIn}
use Rattle.marks.proofs.Marks.{split_lt}
use Rattle.kernel.specs.declared.Fired.{Fired}
use Rattle.kernel.specs.Fire.{met, Met}
use Rattle.kernel.specs.Apply.{along, Applied}
use Rattle.kernel.proofs.Unions.{needed_absent, applied_unmet}
use Rattle.kernel.proofs.Visits.{rule_matches, rule_conclusions, Visit, visit_word, visit_count}

pub along_one : (t : List ℕ) (r a : ℕ) (u : List ℕ) (c : ℕ) → c < 64 → along t r a u (2 ^ c) ≡ meetings t r a u c
unfolding along
along_one t r a u c l = sum_cong 64 _ _ (λ s h. ap (λ (x : ℕ). meetings t r a u s * x) (bit_one c s)) ∙ sum_at 64 c (meetings t r a u) l

pub meetings_le : (t : List ℕ) (r a : ℕ) (u : List ℕ) (c : ℕ) → meetings t r a u c ≤ 128
unfolding meetings
meetings_le t r a u c = omega (arith, sum_le 128 1 (λ j. stands t r a j * stands u 0 c j) (λ j l. product_le _ _ (split_lt t _ j) (split_lt u _ j)))

-- a symbol in the word of one symbol is that one
pub along_first : (t : List ℕ) (r a : ℕ) (u : List ℕ) (s c : ℕ) → s < 64 → bit (2 ^ s) c ≡ 1 → meetings t r a u c ≡ along t r a u (2 ^ s)
along_first t r a u s c l h = ap (meetings t r a u) (sym (same_only s c (sym (bit_one s c) ∙ h))) ∙ sym (along_one t r a u s l)
  where
    same_only : (x y : ℕ) → same x y ≡ 1 → x ≡ y
    same_only x y e = elim (ℕ_discrete x y) [ yes q ↦ q | no n ↦ absurd (omega (arith, same_other x y n)) ]

pub along_few : (t : List ℕ) (r a : ℕ) (u : List ℕ) (s : ℕ) → s < 64 → along t r a u (2 ^ s) ≤ 128
along_few t r a u s l = omega (arith, along_one t r a u s l, meetings_le t r a u s)

-- a symbol that is not seen meets none
unseen_left : (t : List ℕ) (r w : ℕ) (u : List ℕ) (a c : ℕ) → SeenIn t r w → a < 64 → bit w a ≡ 0 → meetings t r a u c ≡ 0
unfolding meetings
unseen_left t r w u a c seen l z = sum_zero 128 _ (λ j h. ap (λ (x : ℕ). x * stands u 0 c j) (none j h) ∙ zero-mul _)
  where
    none : (j : ℕ) → j < 128 → stands t r a j ≡ 0
    none j h = omega (arith, seen a j l h)

pub unseen_right : (t : List ℕ) (r a w : ℕ) (u : List ℕ) (c : ℕ) → SeenIn u 0 w → c < 64 → bit w c ≡ 0 → meetings t r a u c ≡ 0
unfolding meetings
unseen_right t r a w u c seen l z = sum_zero 128 _ (λ j h. ap (λ (x : ℕ). stands t r a j * x) (none j h) ∙ mul-zero _)
  where
    none : (j : ℕ) → j < 128 → stands u 0 c j ≡ 0
    none j h = omega (arith, seen c j l h)

-- where none of a group's right symbols is seen, none of its rules matches
pub group_unmet : (g : Grammar) (places : Groups) → Grouped g places → ((b : ℕ) → b < pair_rule_count g → ((pair_rule g b).left < 64) × ((pair_rule g b).right < 64))
    → (t : List ℕ) (r : ℕ) (u : List ℕ) (w a : ℕ) → SeenIn u 0 w → a < 64 → bit_and w (group_needs places a) ≡ 0 → (f : Fired) → Applied g (along t r a u) a f f
group_unmet g places p fits t r u w a seen small none f =
    applied_unmet g a (along t r a u) (λ b l e. along_one t r a u _ (fits b l).1 ∙ unseen_right t r a w u _ seen (fits b l).1 (absent b l e)) f
  where
    absent : (b : ℕ) → b < pair_rule_count g → (pair_rule g b).left ≡ a → bit w (pair_rule g b).right ≡ 0
    absent b l e = needed_absent g places p w a small none b l e

module _ (g : Grammar) (t : List ℕ) (r : ℕ) (u : List ℕ)
    (fits : (b : ℕ) → b < pair_rule_count g → ((pair_rule g b).left < 64) × ((pair_rule g b).right < 64)) where
  met_is : (b : ℕ) → b < pair_rule_count g → along t r (pair_rule g b).left u (2 ^ (pair_rule g b).right) ≡ met g t r u b
  unfolding met
  met_is b l = along_one t r _ u _ (fits b l).1

  pub along_le : (b : ℕ) → b < pair_rule_count g → along t r (pair_rule g b).left u (2 ^ (pair_rule g b).right) ≤ 128
  along_le b l = along_few t r _ u _ (fits b l).1

  -- nothing meets: no rule matches
  pub none_met : Apart t r u → (f : Fired) → f.word ≡ 0 → f.count ≡ 0 → Met g t r u f
  unfolding met
  none_met apart f z c = record {
    word = λ A. ap (λ (x : ℕ). bit x A) z ∙ bit_of_zero A ∙ ap (min 1) (sym (sum_zero (pair_rule_count g) _ (λ b l.
        ap (λ (x : ℕ). x * same (pair_rule g b).symbol A) (apart _ _ (fits b l).0 (fits b l).1) ∙ zero-mul _)));
    count = c ∙ sym (sum_zero (pair_rule_count g) _ (λ b l. apart _ _ (fits b l).0 (fits b l).1));
  }

  module _ (w : ℕ) (seen : SeenIn t r w) where
    -- a rule whose left symbol is not seen has no match
    only_seen : (b : ℕ) → b < pair_rule_count g → bit w (pair_rule g b).left * met g t r u b ≡ met g t r u b
    unfolding met
    only_seen b l = go (bit w (pair_rule g b).left) (bit_lt w _) (unseen_left t r w u _ _ seen (fits b l).0)
      where
        go : (x : ℕ) → x < 2 → (x ≡ 0 → met g t r u b ≡ 0) → x * met g t r u b ≡ met g t r u b
        go zero h z = zero-mul _ ∙ sym (z refl)
        go (suc zero) h z = one-mul _
        go (suc (suc x)) h z = absurd (omega arith)

    pub met_all : (was f : Fired) (rest : ℕ) → was.word ≡ 0 → was.count ≡ 0 → rest ≡ 0 → Visit g w (λ a. along t r a u) was f rest → Met g t r u f
    unfolding rule_matches rule_conclusions
    met_all was f rest o e z v = record {
      word = λ A. visit_word g w (λ a. along t r a u) (λ b l. (fits b l).0) was f rest z v A
          ∙ ap₂ (λ (x y : ℕ). max x (min 1 y)) (ap (λ (x : ℕ). bit x A) o ∙ bit_of_zero A) (sum_cong (pair_rule_count g) _ _ (concluding_is A)) ∙ omega arith;
      count = visit_count g w (λ a. along t r a u) (λ b l. (fits b l).0) was f rest z v
          ∙ ap₂ ◌+◌ e (sum_cong (pair_rule_count g) _ _ (λ b l. ap (λ (x : ℕ). bit w (pair_rule g b).left * x) (met_is b l) ∙ only_seen b l)) ∙ zero-add _;
    }
      where
        concluding_is : (A b : ℕ) → b < pair_rule_count g
            → bit w (pair_rule g b).left * (along t r (pair_rule g b).left u (2 ^ (pair_rule g b).right) * bit (2 ^ (pair_rule g b).symbol) A)
            ≡ met g t r u b * same (pair_rule g b).symbol A
        concluding_is A b l =
            sym (mul_assoc _ _ _)
            ∙ ap₂ ◌*◌ (ap (λ (x : ℕ). bit w (pair_rule g b).left * x) (met_is b l) ∙ only_seen b l) (bit_one (pair_rule g b).symbol A)
