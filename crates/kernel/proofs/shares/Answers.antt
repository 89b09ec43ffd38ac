-- `meet` by a test.
use Rattle.std.proofs.Common.{arith}
use Rattle.std.proofs.lemmas.Bool.Decides.{nat_tests}
use Rattle.bits.specs.Word.{meet}
use Rattle.kernel.proofs.shares.Goals as goal

pub returns : goal.returns
unfolding meet
returns c = grind (arith, nat_tests)
