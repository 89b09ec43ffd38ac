-- The invariant: the words before this one are counted.
use mathlib.Core.Path.{◌≡◌}
use Prim.Native.Nat.{◌*◌, ◌≤◌}
use Rattle.columns.specs.Fill.{ones_to}
use Rattle.chart.proofs.items_of.Given as goal

abbrev pub invariant-loop-word : goal.invariant-loop-word
invariant-loop-word l = (l.word-index ≤ l.n) × (l.total ≤ 64 * l.word-index) × (l.total ≡ ones_to l.chart l.word-index)
