-- A hit below 2, shifted left by less than 64, loses no bit, so the shift is the product in `put`.
use native.Mathlib.Omega.{arith}
use mathlib.Core.Path.{ap}
use lib.Bits.{bit_or}
use lib.Pow.{shl_exact}
use Rattle.bits.specs.Word.{put}
use Rattle.bits.proofs.put_bit.Goals as goal

pub returns : goal.returns
unfolding put
returns c = ap (bit_or c.args.word) (shl_exact 1 c.args.a 64 c.requires.1 (omega arith))
