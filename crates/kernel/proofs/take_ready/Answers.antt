-- What is ready for a left symbol is what its rules add.
use native.Mathlib.Omega.{arith}
use mathlib.Core.Path.{refl}
use Rattle.image.proofs.Outcomes.{taken as accepted}
use Rattle.kernel.proofs.Readies.{taken, ready_few}
use Rattle.kernel.proofs.take_ready.Goals as goal

pub overflow_add-result : goal.overflow_add-result
overflow_add-result c = omega (arith, c.requires.a_bound, ready_few _ _ _ _ c.requires.ready_at, (accepted c.args.grammar.accepted).sound.range.pairs)

pub returns : goal.returns
returns c = taken _ _ _ _ _ _ c.requires.ready_at refl refl
