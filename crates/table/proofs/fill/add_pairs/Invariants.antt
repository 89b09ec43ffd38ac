-- The invariant: each word of the cell is the held sum of what the rules passed add.
use Prim.Native.Nat.{◌≤◌}
use Rattle.image.specs.Shown.{shown}
use Rattle.table.specs.Fill.{pair_adds, Summed}
use Rattle.table.proofs.fill.add_pairs.Given as goal

abbrev pub invariant-loop-b : goal.invariant-loop-b
invariant-loop-b l = (l.b ≤ l.b-end) × Summed (pair_adds (shown l.grammar) l.initial.table l.i l.k) l.b l.base (shown l.grammar).symbols l.initial.table l.table
