-- A word as a set: with a number put in it has that number, all that it had, and nothing else; and the word is not smaller.
-- Assumes nothing.
use mathlib.Core.Path.{◌≡◌, ap, ◌∙◌}
use mathlib.Core.Logic.{◌⊎◌, inl, inr}
use Prim.Native.Nat.{ℕ, ◌*◌, ◌^◌, ◌≤◌, max}
use native.Mathlib.Nat.{one-mul}
use native.Mathlib.Decide.{ℕ_discrete}
use native.Mathlib.Omega.{arith}
use lib.Bits.{bit_or, or_add_and, and_le_r}
use Rattle.bits.specs.Truth.{same}
use Rattle.bits.specs.Bit.{bit}
use Rattle.bits.specs.Word.{Has, put}
use Rattle.bits.proofs.Truths.{same_refl, same_other}
use Rattle.bits.proofs.Bits.{bit_lt, bit_of_zero, bit_or_is, bit_one}

pub none_in : (a : ℕ) → Has 0 a → ⊥
none_in a h = omega (arith, bit_of_zero a, h)

module _ (w a : ℕ) where
  bit_put : (b : ℕ) → bit (put w a 1) b ≡ max (bit w b) (same a b)
  unfolding put
  bit_put b = ap (λ (x : ℕ). bit (bit_or w x) b) (one-mul (2 ^ a)) ∙ bit_or_is w (2 ^ a) b ∙ ap (max (bit w b)) (bit_one a b)

  pub put_has : Has (put w a 1) a
  put_has = omega (arith, bit_put a, same_refl a, bit_lt w a)

  pub put_keeps : (b : ℕ) → Has w b → Has (put w a 1) b
  put_keeps b h = omega (arith, bit_put b, bit_lt (put w a 1) b, h)

  pub put_only : (b : ℕ) → Has (put w a 1) b → (a ≡ b) ⊎ Has w b
  put_only b h = elim (ℕ_discrete a b) [ yes e ↦ inl e | no n ↦ inr (omega (arith, bit_put b, same_other a b n, h)) ]

  pub put_grows : w ≤ put w a 1
  unfolding put
  put_grows = omega (arith, or_add_and w (1 * 2 ^ a), and_le_r w (1 * 2 ^ a))
