-- The machine's count of ones is the sum of the bits, and a word of 64 bits has at most 64 of them.
use Rattle.bits.proofs.Words.{ones_bits}
use lib.Count.{ones-le}
use Rattle.bits.proofs.ones.Goals as goal

pub returns : goal.returns
returns c = (ones_bits 64 c.args.word c.ranges.word.fits, ones-le 64 c.args.word c.ranges.word.fits)
