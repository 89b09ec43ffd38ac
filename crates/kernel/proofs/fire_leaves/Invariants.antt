-- The invariant: the first r rules are done.
use Prim.Native.Nat.{◌≤◌}
use Rattle.image.specs.Shown.{shown}
use Rattle.kernel.proofs.Leaves.{Run}
use Rattle.kernel.proofs.fire_leaves.Given as goal

abbrev pub invariant-loop-r : goal.invariant-loop-r
invariant-loop-r l = (l.r ≤ l.r-end) × (l.r-end ≤ 512) × Run (shown l.grammar) l.event l.f l.r
