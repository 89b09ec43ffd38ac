-- The cell is worked out, and the symbols that have derivations over it are marked.
use mathlib.Core.Path.{◌≡◌}
use mathlib.Core.List.{List}
use Prim.Native.Nat.{ℕ, ◌+◌, ◌*◌, ◌≤◌, ◌<◌}
use native.Mathlib.Nat.{le_trans, le_refl}
use native.Mathlib.Omega.{arith}
use lib.ListN.{length}
use Rattle.derivation.specs.Grammar.{Grammar}
use Rattle.table.specs.Table.{slot_of, table_words}
use Rattle.table.proofs.Sets.{nonzero_part}
use Rattle.table.proofs.Slots.{cell_fits, words_small}
use Rattle.image.specs.Shown.{shown}
use Rattle.image.proofs.Outcomes.{taken}
use Rattle.table.proofs.Marked.{cell_shown}
use Rattle.table.proofs.fill.fill_cell.Goals as goal

inside : (g : Grammar) (N base i k : ℕ) (o t : List ℕ) → N ≡ g.symbols → base ≡ slot_of N 0 i k → i < k → table_words g.symbols k ≤ length o → length t ≡ length o → base + N ≤ length t
inside g N base i k o t n b lt fits long = rw (b, n, long) (le_trans (cell_fits g.symbols i k k lt (le_refl k)) fits)

small : (g : Grammar) (N base i k : ℕ) → N ≡ g.symbols → base ≡ slot_of N 0 i k → i < k → k < 65536 → g.symbols ≤ 64 → base * 4 < 18446744073709551616
small g N base i k n b lt low few = rw (b, n) (omega (arith, cell_fits g.symbols i k k lt (le_refl k), words_small g.symbols k few low))

pub overflow_add-base : goal.overflow_add-base
overflow_add-base c = omega (arith, inside (shown c.args.grammar) _ _ _ _ _ _ c.symbol_count-symbols.ensures.0 c.slot-base.ensures c.requires.i_lt_k.0 c.requires.i_lt_k.3 c.work_cell.ensures.frame.long)

pub offset_bounds-table-base : goal.offset_bounds-table-base
offset_bounds-table-base c = record { fits = small (shown c.args.grammar) _ _ _ _ c.symbol_count-symbols.ensures.0 c.slot-base.ensures c.requires.i_lt_k.0 c.requires.i_lt_k.2 (taken c.args.grammar.accepted).sound.range.symbols }

pub slice_bounds-symbols_of-end : goal.slice_bounds-symbols_of-end
slice_bounds-symbols_of-end c = inside (shown c.args.grammar) _ _ _ _ _ _ c.symbol_count-symbols.ensures.0 c.slot-base.ensures c.requires.i_lt_k.0 c.requires.i_lt_k.3 c.work_cell.ensures.frame.long

pub returns : goal.returns
returns c =
    let n = c.symbol_count-symbols.ensures.0 in
    let fits = inside (shown c.args.grammar) _ _ _ _ _ _ n c.slot-base.ensures c.requires.i_lt_k.0 c.requires.i_lt_k.3 c.work_cell.ensures.frame.long in
    (c.work_cell.ensures, cell_shown _ _ _ _ _ _ _ _ _ _ c.requires.i_lt_k.0 c.work_cell.ensures.word (rw (c.slot-base.ensures, n) at (nonzero_part _ _ _ _ fits c.symbols_of-word.ensures)) c.mark_cell.ensures c.requires.shown)
