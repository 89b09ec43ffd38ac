-- The invariant: all wanted symbols but those of the iterator are ready.
use mathlib.Core.Path.{◌≡◌}
use lib.ListN.{length}
use Rattle.image.specs.Shown.{shown}
use Rattle.kernel.proofs.Readies.{Made}
use Rattle.kernel.proofs.make_ready.Given as goal

abbrev pub invariant-loop-a : goal.invariant-loop-a
invariant-loop-a l = (length l.made ≡ 64) × Made (shown l.grammar) l.right l.wanted l.a-iterator l.made
