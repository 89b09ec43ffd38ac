-- The invariant: the cells passed hold their counts and are marked, and no word past those that the record needs has changed.
use mathlib.Core.Path.{◌≡◌}
use Prim.Native.Nat.{◌≤◌}
use lib.ListN.{length}
use Rattle.bits.specs.Frame.{Framed}
use Rattle.derivation.specs.Derivations.{known}
use Rattle.image.specs.Shown.{shown}
use Rattle.marks.specs.Shown.{Shown}
use Rattle.table.specs.Table.{table_words}
use Rattle.table.specs.Fill.{Done}
use Rattle.table.proofs.fill.fill_cells.Given as goal

abbrev pub invariant-loop-i : goal.invariant-loop-i
invariant-loop-i l = (l.i ≤ l.k) × Done (shown l.grammar) l.events l.table l.i l.k × Framed l.initial.table l.table 0 (table_words (shown l.grammar).symbols (length l.events))
    × (length l.lefts ≡ length l.initial.lefts) × (length l.rights ≡ length l.initial.rights) × Shown (shown l.grammar).symbols (known (shown l.grammar) l.events) l.lefts l.rights l.i l.k
