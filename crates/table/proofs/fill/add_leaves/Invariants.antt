-- The invariant: each word of the cell is the held sum of what the rules passed add.
use Prim.Native.Nat.{◌≤◌}
use Rattle.image.specs.Shown.{shown}
use Rattle.table.specs.Fill.{leaf_adds, Summed}
use Rattle.table.proofs.fill.add_leaves.Given as goal

abbrev pub invariant-loop-r : goal.invariant-loop-r
invariant-loop-r l = (l.r ≤ l.r-end) × Summed (leaf_adds (shown l.grammar) l.event) l.r l.base (shown l.grammar).symbols l.initial.table l.table
