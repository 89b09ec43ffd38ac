-- Laws of a word's bits: each is 0 or 1; bit 0 and the bits above it; bits of a union, of what two words share, and of a word of one bit.
-- Assumes nothing.
use mathlib.Core.Path.{◌≡◌, sym, ap, ◌∙◌}
use Prim.Native.Nat.{ℕ, zero, suc, ◌*◌, ◌/◌, ◌%◌, ◌^◌, ◌≤◌, ◌<◌, max, min}
use native.Mathlib.Nat.{mod-eq_of_lt, mod-lt, mul-one, one-mul, mul-zero, div-eq_of_lt, zero-lt-suc, lt_of_lt_of_le, lt_of_not-le}
use native.Mathlib.Omega.{arith}
use lib.Bits.{bit_and, bit_or, or_zero_l, shifted_even, shifted_half}
use lib.Pow.{pow_mono}
use Rattle.std.proofs.lemmas.Nat.Bits.{bit_at_lowest, bit_at-suc, bit_at-zero, bit_at_or, bit_at_and}
use Rattle.bits.specs.Truth.{same}
use Rattle.bits.specs.Bit.{bit}
use Rattle.bits.specs.Word.{put, meet}

pub bit_lt : (w a : ℕ) → bit w a < 2
unfolding bit
bit_lt w a = mod-lt (w / 2 ^ a) (zero-lt-suc 1)

pub bit_zero : (w : ℕ) → bit w 0 ≡ w % 2
unfolding bit
bit_zero = bit_at_lowest

pub bit_suc : (w a : ℕ) → bit w (suc a) ≡ bit (w / 2) a
unfolding bit
bit_suc = bit_at-suc

pub bit_of_zero : (a : ℕ) → bit 0 a ≡ 0
unfolding bit
bit_of_zero = bit_at-zero

-- a word of k bits has no bit from k up
pub bit_high : (k w b : ℕ) → w < 2 ^ k → k ≤ b → bit w b ≡ 0
unfolding bit
bit_high k w b l h = ap (λ (x : ℕ). x % 2) (div-eq_of_lt (lt_of_lt_of_le l (pow_mono h)))

pub bit_small : (w b : ℕ) → w < 2 ^ 64 → bit w b ≡ 1 → b < 64
bit_small w b l h = lt_of_not-le (λ g. omega (arith, bit_high 64 w b l g))

pub bit_or_is : (x y a : ℕ) → bit (bit_or x y) a ≡ max (bit x a) (bit y a)
unfolding bit
bit_or_is = bit_at_or

pub bit_shift : (h a b : ℕ) → h < 2 → bit (h * 2 ^ a) b ≡ h * same a b
unfolding same
bit_shift h zero zero l = bit_zero (h * 1) ∙ ap (λ (x : ℕ). x % 2) (mul-one h) ∙ mod-eq_of_lt l ∙ sym (mul-one h)
bit_shift h zero (suc b) l =
    bit_suc (h * 1) b ∙ ap (λ (x : ℕ). bit x b) (ap (λ (x : ℕ). x / 2) (mul-one h) ∙ div-eq_of_lt l) ∙ bit_of_zero b ∙ sym (mul-zero h)
bit_shift h (suc a) zero l = bit_zero (h * 2 ^ suc a) ∙ shifted_even h a ∙ sym (mul-zero h)
bit_shift h (suc a) (suc b) l = bit_suc (h * 2 ^ suc a) b ∙ ap (λ (x : ℕ). bit x b) (shifted_half h a) ∙ bit_shift h a b l

pub bit_and_is : (x y a : ℕ) → bit (bit_and x y) a ≡ min (bit x a) (bit y a)
unfolding bit
bit_and_is = bit_at_and

-- ---- a word of one bit
pub bit_one : (a b : ℕ) → bit (2 ^ a) b ≡ same a b
bit_one a b = ap (λ (x : ℕ). bit x b) (sym (one-mul (2 ^ a))) ∙ bit_shift 1 a b (omega arith) ∙ one-mul (same a b)

pub put_alone : (a : ℕ) → put 0 a 1 ≡ 2 ^ a
unfolding put
put_alone a = or_zero_l _ ∙ one-mul (2 ^ a)

pub meet_lt : (v w : ℕ) → meet v w < 2
unfolding meet
meet_lt v w = omega arith
