-- The invariant: the events of the first r rules are in the set.
use mathlib.Core.Path.{◌≡◌}
use Prim.Native.Nat.{◌≤◌}
use lib.ListN.{length}
use Rattle.image.specs.Shown.{shown}
use Rattle.kernel.specs.Fire.{Heard}
use Rattle.kernel.proofs.events_of.Given as goal

abbrev pub invariant-loop-r : goal.invariant-loop-r
invariant-loop-r l = (l.r ≤ l.r-end) × (length l.heard ≡ 16) × Heard (shown l.grammar) l.heard l.r
