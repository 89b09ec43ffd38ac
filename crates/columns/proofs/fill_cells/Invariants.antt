-- The invariant: the cells from i on are filled, and the marks show them.
use mathlib.Core.Path.{◌≡◌}
use Prim.Native.Nat.{◌+◌, ◌-◌, ◌*◌, ◌≤◌}
use lib.ListN.{length}
use Rattle.image.specs.Shown.{shown}
use Rattle.columns.specs.NewColumn.{in_chart}
use Rattle.marks.specs.Shown.{Shown}
use Rattle.columns.proofs.Fills.{Part}
use Rattle.columns.proofs.fill_cells.Given as goal

abbrev pub invariant-loop-i : goal.invariant-loop-i
invariant-loop-i l = (l.i ≤ l.q) × (l.count ≤ 512 + 16777216 * (l.q - l.i)) × Part (shown l.grammar) l.event l.initial.chart l.chart l.q l.i l.count
    × (length l.lefts ≡ length l.initial.lefts) × (length l.rights ≡ length l.initial.rights) × Shown 64 (in_chart l.chart) l.lefts l.rights l.i (l.q + 1)
