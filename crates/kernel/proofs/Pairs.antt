-- The pair rules over the words u and v of two cells: a visit to all symbols of u adds what the rules conclude, and where one is empty nothing.
-- Assumes nothing.
use mathlib.Core.Path.{◌≡◌, refl, sym, ap, ap₂, ◌∙◌}
use Prim.Native.Nat.{ℕ, ◌+◌, ◌*◌, ◌≤◌, ◌<◌, max, min}
use native.Mathlib.Nat.{mul_assoc, mul-zero, zero-mul, add-zero, max-zero, le_of_suc-le-suc}
use native.Mathlib.Omega.{arith}
use Rattle.bits.specs.Truth.{same}
use Rattle.bits.specs.Bit.{bit}
use Rattle.bits.specs.Word.{meet}
use Rattle.bits.proofs.Sums.{sum_cong, sum_zero}
use Rattle.bits.proofs.Bits.{bit_of_zero, bit_one, meet_lt}
use Rattle.bits.proofs.Words.{meet_one}
use Rattle.derivation.specs.Grammar.{Grammar, pair_rule_count, pair_rule}
use Rattle.kernel.specs.declared.Fired.{Fired}
use Rattle.kernel.specs.Fire.{hits, Concluded}
use Rattle.kernel.specs.Conclude.{hit, conclusions}
use Rattle.kernel.specs.Apply.{over}
use Rattle.kernel.proofs.Visits.{rule_matches, rule_conclusions, Visit, visit_word, visit_count}

pub over_is : (v R : ℕ) → over v R ≡ meet v R
unfolding over
over_is v R = refl

pub over_le : (v R : ℕ) → over v R ≤ 1
unfolding over
over_le v R = le_of_suc-le-suc (meet_lt v R)

module _ (g : Grammar) (u v : ℕ) where
  -- no rule matches
  module _ (none-hit : (b : ℕ) → hit g u v b ≡ 0) where
    nothing : (f : Fired) → Concluded g u v f f
    unfolding conclusions hits
    nothing f = record {
      word = λ A. sym (max-zero (bit f.word A)) ∙ ap (λ (s : ℕ). max (bit f.word A) (min 1 s))
          (sym (sum_zero (pair_rule_count g) _ (λ b l. ap (λ (x : ℕ). x * same (pair_rule g b).symbol A) (none-hit b) ∙ omega arith)));
      count = sym (add-zero f.count) ∙ ap (λ (s : ℕ). f.count + s) (sym (sum_zero (pair_rule_count g) _ (λ b l. none-hit b)));
    }

  pub none_left : u ≡ 0 → (f : Fired) → Concluded g u v f f
  unfolding hit
  none_left e = nothing (λ b. rw e (ap (λ (x : ℕ). x * bit v (pair_rule g b).right) (bit_of_zero (pair_rule g b).left) ∙ zero-mul _))

  pub none_right : v ≡ 0 → (f : Fired) → Concluded g u v f f
  unfolding hit
  none_right e = nothing (λ b. rw e (ap (λ (x : ℕ). bit u (pair_rule g b).left * x) (bit_of_zero (pair_rule g b).right) ∙ mul-zero _))

  pub concluded_all : ((b : ℕ) → b < pair_rule_count g → (pair_rule g b).left < 64) → (was f : Fired) (rest : ℕ) → rest ≡ 0
      → Visit g u (λ s. over v) was f rest → Concluded g u v was f
  unfolding hits conclusions hit over rule_matches rule_conclusions
  concluded_all fits was f rest z w = record {
    word = λ A. visit_word g u (λ s. over v) fits was f rest z w A ∙ ap (λ (s : ℕ). max (bit was.word A) (min 1 s))
        (sum_cong (pair_rule_count g) _ _ (λ b l.
        ap₂ (λ (x y : ℕ). bit u (pair_rule g b).left * (x * y)) (meet_one v (pair_rule g b).right) (bit_one (pair_rule g b).symbol A)
        ∙ sym (mul_assoc (bit u (pair_rule g b).left) (bit v (pair_rule g b).right) (same (pair_rule g b).symbol A))));
    count = visit_count g u (λ s. over v) fits was f rest z w ∙ ap (λ (s : ℕ). was.count + s)
        (sum_cong (pair_rule_count g) _ _ (λ b l. ap (λ (x : ℕ). bit u (pair_rule g b).left * x) (meet_one v (pair_rule g b).right)));
  }
