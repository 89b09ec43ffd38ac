-- The numbers of a set visited one by one, in any order: what is added up over those that are not left is at the end the sum over all of them.
-- Assumes nothing.
use mathlib.Core.Path.{◌≡◌, ap, ◌∙◌}
use Prim.Native.Nat.{ℕ, ◌+◌, ◌-◌, ◌*◌, ◌≤◌, ◌<◌}
use native.Mathlib.Nat.{sub-zero, mul-le-mul_right}
use native.Mathlib.Omega.{arith}
use Rattle.bits.specs.Truth.{same}
use Rattle.bits.specs.Sum.{sum}
use Rattle.bits.specs.Bit.{bit}
use Rattle.bits.specs.Word.{Without}
use Rattle.bits.proofs.Sums.{sum_cong, sum_zero, sum_add, sum_mono, sum_at}
use Rattle.bits.proofs.Bits.{bit_of_zero}

-- F of each number of u that is not in rest, added up
unfoldable pub visited : (u rest : ℕ) → (ℕ → ℕ) → ℕ
visited u rest F = sum 64 (λ s. (bit u s - bit rest s) * F s)

module _ (u : ℕ) where
  pub none_visited : (F : ℕ → ℕ) → visited u u F ≡ 0
  unfolding visited
  none_visited F = sum_zero 64 _ (λ s l. let e : bit u s - bit u s ≡ 0 = omega arith in rw e (omega arith))

  pub all_visited : (F : ℕ → ℕ) → visited u 0 F ≡ sum 64 (λ s. bit u s * F s)
  unfolding visited
  all_visited F = sum_cong 64 _ _ (λ s l. rw (bit_of_zero s, sub-zero (bit u s)))

  pub visited_le : (rest : ℕ) (F : ℕ → ℕ) → visited u rest F ≤ sum 64 (λ s. bit u s * F s)
  unfolding visited
  visited_le rest F = sum_mono 64 _ _ (λ s l. mul-le-mul_right (F s) (omega arith))

  -- one number more
  module _ (rest a less : ℕ) (part : (s : ℕ) → bit rest s ≤ bit u s) (w : Without rest a less) where
    pub part_less : (s : ℕ) → bit less s ≤ bit u s
    part_less s = omega (arith, part s, w.bits s)

    pub one_visited : a < 64 → (F : ℕ → ℕ) → visited u less F ≡ visited u rest F + F a
    unfolding visited
    one_visited small F =
        sum_cong 64 _ _ (λ s l. split (bit u s) (bit rest s) (bit less s) (same a s) (F s) (part s) (w.bits s))
        ∙ sum_add 64 (λ s. (bit u s - bit rest s) * F s) (λ s. F s * same a s)
        ∙ ap (λ (x : ℕ). sum 64 (λ s. (bit u s - bit rest s) * F s) + x) (sum_at 64 a F small)
      where
        split : (x y z e f : ℕ) → y ≤ x → z + e ≡ y → (x - z) * f ≡ (x - y) * f + f * e
        split x y z e f p q = let d : x - z ≡ x - y + e = omega arith in rw d (omega arith)
