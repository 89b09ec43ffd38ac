-- The invariant: the first q columns are filled, and the marks show them.
use mathlib.Core.Path.{◌≡◌}
use Prim.Native.Nat.{◌+◌, ◌*◌, ◌≤◌, ◌<◌}
use lib.ListN.{length}
use Rattle.image.specs.Shown.{shown}
use Rattle.columns.specs.Fill.{Columns}
use Rattle.columns.specs.NewColumn.{in_chart}
use Rattle.marks.specs.Shown.{InUse, Lefts}
use Rattle.columns.proofs.fill_columns.Given as goal

abbrev pub invariant-loop-q : goal.invariant-loop-q
invariant-loop-q l = (l.q-end ≡ length l.events) × (l.q ≤ l.q-end) × (length l.chart ≡ length l.initial.chart) × (l.count ≤ 2199023255552 * l.q)
    × Columns (shown l.grammar) l.events l.initial.chart l.chart l.q l.count
    × (length l.lefts ≡ length l.initial.lefts) × (InUse l.lefts → (l.q < 96 → Lefts 64 (in_chart l.chart) l.lefts (l.q + 1) (l.q + 1)))
