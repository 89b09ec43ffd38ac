-- The cell's words are cleared, and then each is what the rules add.
use mathlib.Core.Path.{◌≡◌}
use Prim.Native.Nat.{ℕ, ◌+◌, ◌≤◌, ◌<◌}
use mathlib.Core.List.{List}
use Rattle.derivation.specs.Grammar.{Grammar}
use native.Mathlib.Nat.{le_trans, le_refl}
use native.Mathlib.Omega.{arith}
use lib.ListN.{length}
use Rattle.table.specs.Table.{slot_of, table_words}
use Rattle.table.proofs.Tables.{done_framed, leaf_cell, pair_cell}
use Rattle.table.proofs.Marked.{parts_shown}
use Rattle.image.specs.Shown.{shown}
use Rattle.image.proofs.Outcomes.{taken}
use Rattle.table.proofs.Slots.{cell_fits}
use Rattle.table.proofs.fill.work_cell.Goals as goal

inside : (g : Grammar) (i k : ℕ) (t : List ℕ) → i < k → table_words g.symbols k ≤ length t → slot_of g.symbols 0 i k + g.symbols ≤ length t
inside g i k t lt fits = le_trans (cell_fits g.symbols i k k lt (le_refl k)) fits

base_is : (g : Grammar) (N base i k : ℕ) → N ≡ g.symbols → base ≡ slot_of N 0 i k → base ≡ slot_of g.symbols 0 i k
base_is g N base i k e b = rw e at b

pub clear_words-requires : goal.clear_words-requires
clear_words-requires c = rw (c.slot-base.ensures, c.symbol_count-symbols.ensures.0) (inside (shown c.args.grammar) _ _ _ c.requires.i_lt_k.0 c.requires.i_lt_k.3)

pub add_leaves-requires-clause-image_in_bounds : goal.add_leaves-requires-clause-image_in_bounds
add_leaves-requires-clause-image_in_bounds c =
    rw (c.clear_words.ensures.0.long, base_is (shown c.args.grammar) _ _ _ _ c.symbol_count-symbols.ensures.0 c.slot-base.ensures)
    (inside (shown c.args.grammar) _ _ _ c.requires.i_lt_k.0 c.requires.i_lt_k.3)

pub returns-then-k-i : goal.returns-then-k-i
returns-then-k-i c = leaf_cell _ _ _ _ _ _ _ _ (omega arith) c.if-k-i.true (base_is (shown c.args.grammar) _ _ _ _ c.symbol_count-symbols.ensures.0 c.slot-base.ensures)
    (rw c.symbol_count-symbols.ensures.0 at c.clear_words.ensures).0 c.add_leaves.ensures

pub add_pairs-requires-clause-parts : goal.add_pairs-requires-clause-parts
add_pairs-requires-clause-parts c = λ there.
    let m = c.requires.shown there in
    let z = rw c.symbol_count-symbols.ensures.0 at c.clear_words.ensures in
    let e = base_is (shown c.args.grammar) _ _ _ _ c.symbol_count-symbols.ensures.0 c.slot-base.ensures in
    parts_shown _ _ _ _ _ _ _ c.requires.i_lt_k.0 (done_framed _ _ _ _ _ _ c.requires.i_lt_k.0 (rw e at z.0) c.requires.done) m.0 m.1

pub returns-else-k-i : goal.returns-else-k-i
returns-else-k-i c = pair_cell _ (taken c.args.grammar.accepted).sound _ _ _ _ _ _ _ (omega arith) (base_is (shown c.args.grammar) _ _ _ _ c.symbol_count-symbols.ensures.0 c.slot-base.ensures)
    (rw c.symbol_count-symbols.ensures.0 at c.clear_words.ensures).0 c.requires.done c.add_pairs.ensures
