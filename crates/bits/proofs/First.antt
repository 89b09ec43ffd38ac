-- The trailing zeros of a word lead to its first set bit, and what it shares with the number below it is the word without that bit.
-- Assumes nothing.
use mathlib.Core.Path.{◌≡◌, refl, ap}
use Prim.Native.Nat.{ℕ, zero, suc, ◌+◌, ◌-◌, ◌/◌, ◌%◌, ◌^◌, ◌<◌}
use native.Mathlib.Nat.{pow-suc}
use native.Mathlib.Omega.{arith}
use lib.Bits.{bit_and, and_step, and_self}
use lib.Count.{count_trailing_zeros, under}
use Rattle.std.specs.Int.{w64}
use Rattle.std.proofs.lemmas.Nat.Bits.{bit_at-trailing_zeros}
use Rattle.bits.specs.Bit.{bit}
use Rattle.bits.specs.Word.{Has, Without}
use Rattle.bits.proofs.Words.{without_is}

-- ---- the first set bit
pub first_is : (w : ℕ) → 0 < w → w < 2 ^ 64 → (count_trailing_zeros 64 w < 64) × (bit w (count_trailing_zeros 64 w) ≡ 1)
unfolding bit
first_is w p l = let h = bit_at-trailing_zeros w64 w p l in (h.0, h.1)

-- ---- what a word shares with the number below it
shared_by : (n t d : ℕ) → n % 2 ≡ d → 0 < n → (0 < n / 2 → bit_and (n / 2) (n / 2 - 1) + 2 ^ t ≡ n / 2) → bit_and n (n - 1) + 2 ^ under d t ≡ n
shared_by n t (suc d) odd some half = let e : (n - 1) / 2 ≡ n / 2 = omega arith in omega (arith, and_step n (n - 1), ap (bit_and (n / 2)) e, and_self (n / 2))
shared_by n t zero even some half =
    let e : (n - 1) / 2 ≡ n / 2 - 1 = omega arith in
    omega (arith, and_step n (n - 1), ap (bit_and (n / 2)) e, half (omega arith), pow-suc 2 t)

shared : (k n : ℕ) → 0 < n → n < 2 ^ k → bit_and n (n - 1) + 2 ^ count_trailing_zeros k n ≡ n
unfolding count_trailing_zeros
shared zero n some fits = absurd (omega arith)
shared (suc k) n some fits = shared_by n (count_trailing_zeros k (n / 2)) (n % 2) refl some (λ rest. shared k (n / 2) rest (omega (arith, pow-suc 2 k)))

pub first_given : (w : ℕ) → 0 < w → w < 2 ^ 64
    → let a = count_trailing_zeros 64 w in (a < 64) × Has w a × Without w a (bit_and w (w - 1))
first_given w p l =
    let h = first_is w p l in
    let e : bit_and w (w - 1) ≡ w - 2 ^ count_trailing_zeros 64 w = omega (arith, shared 64 w p l) in
    (h.0, h.1, rw e (without_is w (count_trailing_zeros 64 w) l h.1))
