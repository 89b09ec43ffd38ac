-- The invariant: the columns before k hold their counts and are marked, and no word past those that the record needs has changed.
use mathlib.Core.Path.{◌≡◌}
use Prim.Native.Nat.{◌+◌, ◌≤◌}
use lib.ListN.{length}
use Rattle.bits.specs.Frame.{Framed}
use Rattle.derivation.specs.Derivations.{known}
use Rattle.image.specs.Shown.{shown}
use Rattle.marks.specs.Shown.{InUse, Lefts}
use Rattle.table.specs.Table.{table_words}
use Rattle.table.specs.Fill.{Done}
use Rattle.table.proofs.fill.fill_columns.Given as goal

abbrev pub invariant-loop-k : goal.invariant-loop-k
invariant-loop-k l = (l.k ≤ length l.events + 1) × Done (shown l.grammar) l.events l.table l.k l.k × Framed l.initial.table l.table 0 (table_words (shown l.grammar).symbols (length l.events))
    × (length l.lefts ≡ length l.initial.lefts) × (InUse l.lefts → (l.k ≤ 96 → Lefts (shown l.grammar).symbols (known (shown l.grammar) l.events) l.lefts l.k l.k))
