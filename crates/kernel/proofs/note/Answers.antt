-- With no match nothing changes; with some the bits of the symbol go in, and each counts.
use mathlib.Core.Path.{refl}
use Rattle.kernel.proofs.Applies.{some_noted}
use native.Mathlib.Omega.{arith}
use Rattle.kernel.proofs.note.Goals as goal

pub returns : goal.returns
returns c = some_noted _ _ _ _ (omega (arith, c.if-matches-eq0.false)) refl refl
