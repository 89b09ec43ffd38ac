-- The unions of a group decide where all or none of its rules match: every right symbol of the group stands in its first union.
-- Assumes nothing.
use mathlib.Core.Path.{◌≡◌, sym, ap, ap₂, ◌∙◌}
use Prim.Native.Nat.{ℕ, ◌+◌, ◌-◌, ◌*◌, ◌^◌, ◌≤◌, ◌<◌, max, min}
use native.Mathlib.Nat.{add-zero, max-zero, mul-one, mul-zero, zero-mul}
use native.Mathlib.Decide.{ℕ_discrete}
use native.Mathlib.Omega.{arith}
use lib.Bits.{bit_and, bit_or}
use Rattle.bits.specs.Truth.{same}
use Rattle.bits.specs.Sum.{sum}
use Rattle.bits.specs.Bit.{bit}
use Rattle.bits.specs.Word.{meet}
use Rattle.bits.proofs.Truths.{same_refl, same_eq, same_other}
use Rattle.bits.proofs.Sums.{sum_cong, sum_zero, sum_upto}
use Rattle.bits.proofs.Bits.{bit_lt, bit_and_is, bit_or_is, bit_one, bit_of_zero}
use Rattle.bits.proofs.Words.{meet_one}
use Rattle.derivation.specs.Grammar.{Grammar, pair_rule_count, pair_rule}
use Rattle.kernel.specs.declared.Fired.{Fired}
use Rattle.groups.specs.declared.Groups.{Groups}
use Rattle.groups.specs.Group.{lefts, sum_by_left, group_from, group_to, group_needs, group_gives, right_is, symbol_is, Grouped}
use Rattle.kernel.specs.Apply.{matching, concluding, over, Applied}

-- what holds of each rule of a group may be put for it in a sum over the group
module _ (g : Grammar) (a : ℕ) (F H : ℕ → ℕ → ℕ)
    (alike : (b : ℕ) → b < pair_rule_count g → (pair_rule g b).left ≡ a → F (2 ^ (pair_rule g b).right) (2 ^ (pair_rule g b).symbol) ≡ H (2 ^ (pair_rule g b).right) (2 ^ (pair_rule g b).symbol)) where
  by_left_cong : sum_by_left g a F (pair_rule_count g) ≡ sum_by_left g a H (pair_rule_count g)
  unfolding sum_by_left
  by_left_cong = sum_cong (pair_rule_count g) _ _ (λ b l. go b l (ℕ_discrete (pair_rule g b).left a))
    where
      go : (b : ℕ) → b < pair_rule_count g → Dec ((pair_rule g b).left ≡ a)
          → same (pair_rule g b).left a * F (2 ^ (pair_rule g b).right) (2 ^ (pair_rule g b).symbol)
          ≡ same (pair_rule g b).left a * H (2 ^ (pair_rule g b).right) (2 ^ (pair_rule g b).symbol)
      go b l (yes e) = ap (λ (x : ℕ). same (pair_rule g b).left a * x) (alike b l e)
      go b l (no e) = rw (same_other (pair_rule g b).left a e) (omega arith)

by_left_none : (g : Grammar) (a n : ℕ) → sum_by_left g a (λ R S. 0) n ≡ 0
unfolding sum_by_left
by_left_none g a n = sum_zero n _ (λ b l. mul-zero _)

by_left_ones : (g : Grammar) (a n : ℕ) → sum_by_left g a (λ R S. 1) n ≡ lefts g a n
unfolding sum_by_left lefts
by_left_ones g a n = sum_cong n _ _ (λ b l. mul-one _)

-- none of a group's rules matches
pub applied_unmet : (g : Grammar) (a : ℕ) (m : ℕ → ℕ) → ((b : ℕ) → b < pair_rule_count g → (pair_rule g b).left ≡ a → m (2 ^ (pair_rule g b).right) ≡ 0)
    → (f : Fired) → Applied g m a f f
unfolding matching concluding
applied_unmet g a m unmet f = record {
  word = λ A. sym (max-zero (bit f.word A)) ∙ ap (λ (s : ℕ). max (bit f.word A) (min 1 s))
      (sym (by_left_cong g a _ (λ R S. 0) (λ b l e. ap (λ (x : ℕ). x * bit (2 ^ (pair_rule g b).symbol) A) (unmet b l e) ∙ zero-mul _) ∙ by_left_none g a (pair_rule_count g)));
  count = sym (add-zero f.count) ∙ ap (λ (s : ℕ). f.count + s) (sym (by_left_cong g a _ (λ R S. 0) unmet ∙ by_left_none g a (pair_rule_count g)));
}

module _ (g : Grammar) (t : Groups) (p : Grouped g t) (v a : ℕ) (small : a < 64) where
  -- the right symbol of a rule of the group stands in its union
  right_stands : (b : ℕ) → b < pair_rule_count g → (pair_rule g b).left ≡ a → bit (group_needs t a) (pair_rule g b).right ≡ 1
  unfolding sum_by_left right_is
  right_stands b l e =
      let r = (pair_rule g b).right in
      let one : same (pair_rule g b).left a * bit (2 ^ r) r ≡ 1 = ap₂ ◌*◌ (same_eq (pair_rule g b).left a e) (bit_one r r ∙ same_refl r) in
      p.needs a small r
      ∙ some (sum (pair_rule_count g) (λ c. same (pair_rule g c).left a * bit (2 ^ (pair_rule g c).right) r)) _ _ one
      (sum_upto (pair_rule_count g) (λ c. same (pair_rule g c).left a * bit (2 ^ (pair_rule g c).right) r) b l)
    where
      some : (s x y : ℕ) → y ≡ 1 → x + y ≤ s → min 1 s ≡ 1
      some s x y e l = omega arith

  both : (b : ℕ) → bit (bit_and v (group_needs t a)) (pair_rule g b).right ≡ min (bit v (pair_rule g b).right) (bit (group_needs t a) (pair_rule g b).right)
  both b = bit_and_is v (group_needs t a) (pair_rule g b).right

  -- none of them matches
  module _ (none : bit_and v (group_needs t a) ≡ 0) where
    pub needed_absent : (b : ℕ) → b < pair_rule_count g → (pair_rule g b).left ≡ a → bit v (pair_rule g b).right ≡ 0
    needed_absent b l e =
        let z : bit (bit_and v (group_needs t a)) (pair_rule g b).right ≡ 0 = ap (λ (x : ℕ). bit x (pair_rule g b).right) none ∙ bit_of_zero _ in
        omega (arith, both b, right_stands b l e)

    pub applied_none : (f : Fired) → Applied g (over v) a f f
    unfolding over
    applied_none = applied_unmet g a (over v) (λ b l e. meet_one v (pair_rule g b).right ∙ needed_absent b l e)

  -- all of them match
  module _ (all : bit_and v (group_needs t a) ≡ group_needs t a) where
    met : (b : ℕ) → b < pair_rule_count g → (pair_rule g b).left ≡ a → meet v (2 ^ (pair_rule g b).right) ≡ 1
    met b l e =
        let z : bit (bit_and v (group_needs t a)) (pair_rule g b).right ≡ 1 = ap (λ (x : ℕ). bit x (pair_rule g b).right) all ∙ right_stands b l e in
        meet_one v (pair_rule g b).right ∙ omega (arith, both b, bit_lt v (pair_rule g b).right)

    pub applied_all : (was now : Fired) → now.word ≡ bit_or was.word (group_gives t a) → now.count ≡ was.count + (group_to t a - group_from t a)
        → Applied g (over v) a was now
    unfolding matching concluding over symbol_is
    applied_all was now w c = record {
      word = λ A.
          ap (λ (x : ℕ). bit x A) w ∙ bit_or_is was.word (group_gives t a) A
          ∙ ap (max (bit was.word A)) (p.gives a small A
          ∙ ap (min 1) (sym (by_left_cong g a _ _ (λ b l e. ap (λ (x : ℕ). x * bit (2 ^ (pair_rule g b).symbol) A) (met b l e) ∙ omega arith))));
      count = omega (arith, c, p.from a small, p.to a small, by_left_cong g a (λ R S. meet v R) (λ R S. 1) met, by_left_ones g a (pair_rule_count g));
    }
