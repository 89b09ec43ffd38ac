-- Where the set does not have the event, no rule makes it.
use mathlib.Core.Path.{refl, sym, ◌∙◌}
use Rattle.kernel.proofs.Leaves.{unheard}
use native.Mathlib.Omega.{arith}
use Rattle.kernel.proofs.fire_event.Goals as goal

pub returns-in-Some : goal.returns-in-Some
returns-in-Some c = (unheard _ _ _ _ (rw c.in-Some.is at c.requires) (sym c.bit_of.ensures ∙ c.if-bit_of-eq0.true) refl refl, omega arith)
