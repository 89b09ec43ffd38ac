-- The invariant: the split is pushed into the first i cells. The left parts lie in an older column, which nothing changes.
use Rattle.std.specs.Prelude.{take, ◌++◌}
use Prim.Native.Nat.{◌*◌, ◌≤◌}
use Rattle.image.specs.Shown.{shown}
use Rattle.derivation.specs.Chart.{cell_at}
use Rattle.columns.specs.Fill.{Pushed}
use Rattle.columns.proofs.push_split.Given as goal

abbrev pub invariant-loop-i : goal.invariant-loop-i
invariant-loop-i l = (l.i ≤ l.j) × (l.count ≤ 256 * l.i) × Pushed (shown l.grammar) l.j l.k l.fn.chart (take (cell_at 0 l.k) l.fn.chart ++ l.column) l.i l.count
