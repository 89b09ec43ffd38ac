-- A set bit's power is part of the word, so taking it away changes no other bit.
use native.Mathlib.Omega.{arith}
use mathlib.Core.Path.{◌≡◌, ◌∙◌}
use Prim.Native.Nat.{ℕ, ◌*◌, ◌^◌, ◌%◌, ◌<◌}
use native.Mathlib.Nat.{one-mul}
use lib.Pow.{shl_exact}
use Rattle.bits.proofs.Words.{power_within, without_is}
use Rattle.bits.proofs.without.Goals as goal

-- the shift loses no bit
power : (a : ℕ) → a < 64 → 1 * 2 ^ a % 2 ^ 64 ≡ 2 ^ a
power a l = shl_exact 1 a 64 (omega arith) (omega arith) ∙ one-mul (2 ^ a)

pub overflow_sub-result : goal.overflow_sub-result
overflow_sub-result c = omega (arith, power c.args.a c.requires.0, power_within c.args.word c.args.a c.ranges.word.fits c.requires.1)

pub returns : goal.returns
returns c = rw (power c.args.a c.requires.0) (without_is c.args.word c.args.a c.ranges.word.fits c.requires.1)
