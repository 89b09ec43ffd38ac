-- The invariant: the splits from j on are pushed.
use Prim.Native.Nat.{◌+◌, ◌-◌, ◌*◌, ◌≤◌}
use Rattle.image.specs.Shown.{shown}
use Rattle.columns.proofs.Pushes.{Late}
use Rattle.columns.proofs.push_cells.Given as goal

abbrev pub invariant-loop-j : goal.invariant-loop-j
invariant-loop-j l = (1 ≤ l.j) × (l.j ≤ l.q + 1) × (l.count ≤ 512 + 16777216 * (l.q + 1 - l.j)) × Late (shown l.grammar) l.event l.initial.chart l.chart l.q (l.j - 1) l.count
