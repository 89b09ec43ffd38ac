-- The word of a symbol over a stretch is among those that the table needs.
use Prim.Native.Nat.{ℕ, ◌≤◌, ◌<◌}
use mathlib.Core.Path.{◌≡◌}
use mathlib.Core.List.{List}
use native.Mathlib.Nat.{lt_of_lt_of_le, le_refl}
use lib.ListN.{length}
use Rattle.table.specs.Table.{slot_of, table_words}
use Rattle.table.proofs.Slots.{slot_fits}
use borrow.Author.Rules.{scaled_Fits}
use Rattle.table.proofs.word_of.Goals as goal

inside : (t : List ℕ) (N A i k at : ℕ) → A < N → i < k → table_words N k ≤ length t → at ≡ slot_of N A i k → at < length t
inside t N A i k at symbol lt fits is = rw is (lt_of_lt_of_le (slot_fits N A i k k symbol lt (le_refl k)) fits)

pub offset_bounds-table-slot : goal.offset_bounds-table-slot
offset_bounds-table-slot c = scaled_Fits _ _ 4 (inside _ _ _ _ _ _ c.requires.1 c.requires.2 c.requires.4 c.slot.ensures) c.well_formed.0.1

pub bounds-table-slot : goal.bounds-table-slot
bounds-table-slot c = inside _ _ _ _ _ _ c.requires.1 c.requires.2 c.requires.4 c.slot.ensures
