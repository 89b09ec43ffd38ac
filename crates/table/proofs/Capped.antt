-- Numbers held at a limit M: a product, quotient or remainder of held numbers is, held, that of the numbers themselves.
-- Assumes nothing.
use mathlib.Core.Path.{◌≡◌, sym, ◌∙◌}
use mathlib.Core.Logic.{⊎_elim}
use Prim.Native.Nat.{ℕ, zero, suc, ◌*◌, ◌/◌, ◌%◌, ◌≤◌, ◌<◌, min}
use native.Mathlib.Nat.{min-eq_left, min-eq_right, div-eq_of_lt, mod-eq_of_lt, mul_comm, le-mul_of_pos_right, mul-zero, le_of_lt, lt_of_lt_of_le, le_trans, min-zero}
use native.Mathlib.Omega.{arith}
use Rattle.bits.proofs.Truths.{lt_or_ge}

module _ (M : ℕ) (pos : 0 < M) where
  -- where one factor is at the limit and the other is not 0, both products are
  at_cap : (a b : ℕ) → M ≤ a → min M (min M a * min M b) ≡ min M (a * b)
  at_cap a zero h = rw (min-zero, mul-zero, mul-zero)
  at_cap a (suc b) h =
      rw (min-eq_left h, min-eq_left (le_trans h (le-mul_of_pos_right {m = suc b} a (omega arith))))
      (min-eq_left (le-mul_of_pos_right {m = min M (suc b)} M (omega arith)))

  pub cap_mul : (a b : ℕ) → min M (min M a * min M b) ≡ min M (a * b)
  cap_mul a b =
      ⊎_elim
      (λ (l : a < M).
      ⊎_elim
      (λ (k : b < M). rw (min-eq_right (le_of_lt l), min-eq_right (le_of_lt k)))
      (λ (k : M ≤ b). rw (mul_comm (min M a), mul_comm a) (at_cap b a k))
      (lt_or_ge b M))
      (at_cap a b)
      (lt_or_ge a M)

  pub cap_div : (n m : ℕ) → n < M → n / min M m ≡ n / m
  cap_div n m h =
      ⊎_elim
      (λ (l : M < m). rw (min-eq_left (le_of_lt l)) (div-eq_of_lt h ∙ sym (div-eq_of_lt (lt_of_lt_of_le h (le_of_lt l)))))
      (λ (l : m ≤ M). rw (min-eq_right l))
      (lt_or_ge M m)

  pub cap_mod : (n m : ℕ) → n < M → n % min M m ≡ n % m
  cap_mod n m h =
      ⊎_elim
      (λ (l : M < m). rw (min-eq_left (le_of_lt l)) (mod-eq_of_lt h ∙ sym (mod-eq_of_lt (lt_of_lt_of_le h (le_of_lt l)))))
      (λ (l : m ≤ M). rw (min-eq_right l))
      (lt_or_ge M m)
