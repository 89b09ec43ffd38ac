-- Equal events are the same, and others are not.
use Rattle.std.proofs.Common.{arith}
use Rattle.std.proofs.lemmas.Bool.Decides.{nat_tests}
use Rattle.bits.proofs.Truths.{same_eq, same_other}
use Rattle.kernel.proofs.meets.Goals as goal

pub returns : goal.returns
returns c = grind (arith, nat_tests, same_eq, same_other)
