-- Inside: words as sets: what is in one, a word with a bit put in, whether two have a bit in common, a word without a bit.
-- Assumes nothing.
use Rattle.std.specs.Prelude.{◌≡◌, ℕ, ◌+◌, ◌*◌, ◌^◌, ◌<◌, min, Option, MatchOption}
use Rattle.std.specs.Int.Bits.{bit_and, bit_or}
use Rattle.bits.specs.Truth.{same}
use Rattle.bits.specs.Bit.{bit}

-- number a is in the set that w is
abbrev pub Has : ℕ → ℕ → Type 0
Has w a = bit w a ≡ 1

-- P holds of every number in it
abbrev pub Within : ℕ → (ℕ → Type 0) → Type 0
Within w P = (a : ℕ) → Has w a → P a

-- w with h, 0 or 1, put into bit a: 0 changes nothing
unfoldable pub put : ℕ → ℕ → ℕ → ℕ
put w a h = bit_or w (h * 2 ^ a)

-- 1 where v and w have a bit in common, else 0
unfoldable pub meet : ℕ → ℕ → ℕ
meet v w = min 1 (bit_and v w)

-- r is w without bit a: smaller, and every other bit as it was
pub record Without (w a r : ℕ) : Type 0 where
  pub less : r < w
  pub bits : (b : ℕ) → bit r b + same a b ≡ bit w b

-- one call on the numbers that are left: it gives one of them, and leaves the others, or gives `None` where none is left
abbrev pub GivesMember : ℕ → Option ℕ → ℕ → Type 0
GivesMember w r t = MatchOption r ((w ≡ 0) × (t ≡ 0)) (λ a. (a < 64) × Has w a × Without w a t)
