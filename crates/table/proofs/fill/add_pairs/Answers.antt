-- A rule adds its splits to the word of its symbol, from words outside the cell; where none meet, no rule adds any.
use mathlib.Core.Path.{◌≡◌}
use Prim.Native.Nat.{ℕ, ◌+◌, ◌≤◌, ◌<◌}
use mathlib.Core.List.{List}
use native.Mathlib.Nat.{le_trans, le_refl}
use native.Mathlib.Omega.{arith}
use lib.ListN.{length}
use Rattle.derivation.specs.Grammar.{Grammar}
use Rattle.derivation.proofs.Sound.{pair_fits_at}
use Rattle.table.specs.Table.{slot_of, table_words}
use Rattle.table.proofs.Cells.{summed_start, pairs_on}
use Rattle.table.proofs.Marked.{parts_framed, none_summed}
use Rattle.image.specs.Shown.{shown}
use Rattle.image.proofs.Outcomes.{taken}
use Rattle.table.proofs.Slots.{cell_fits}
use Rattle.table.proofs.fill.add_pairs.Goals as goal

inside : (g : Grammar) (i k base : ℕ) (t : List ℕ) → i + 1 < k → table_words g.symbols k ≤ length t → base ≡ slot_of g.symbols 0 i k → base + g.symbols ≤ length t
inside g i k base t lt fits e = rw e (le_trans (cell_fits g.symbols i k k (omega arith) (le_refl k)) fits)

pub returns-then-none_meet : goal.returns-then-none_meet
returns-then-none_meet c = let m = c.none_meet.ensures c.if-none_meet.true in
    let f = pair_fits_at (shown c.args.grammar) (taken c.args.grammar.accepted).sound in
    none_summed _ _ _ _ _ _ _ (λ b l. ((f b l).left, (f b l).right)) (c.requires.parts m.0) m.1 c.requires.zeros

pub loop-b-init : goal.loop-b-init
loop-b-init c = (omega arith, summed_start _ _ _ _ c.requires.zeros)

pub sum_splits-more-requires-clause-parts : goal.sum_splits-more-requires-clause-parts
sum_splits-more-requires-clause-parts c = λ there. rw c.symbol_count-symbols.ensures.0 (parts_framed _ _ _ _ _ _ _ (rw c.requires.base_value at c.loop-b.invariant.1.frame) (c.requires.parts there))

pub overflow_add-base : goal.overflow_add-base
overflow_add-base c = omega (arith, c.pair_of-p.ensures.symbol_fits, inside (shown c.args.grammar) _ _ _ _ c.requires.i_bound.0 c.requires.i_bound.2 c.requires.base_value)

pub add_word-requires : goal.add_word-requires
add_word-requires c = omega (arith, c.pair_of-p.ensures.symbol_fits, inside (shown c.args.grammar) _ _ _ _ c.requires.i_bound.0 c.requires.i_bound.2 c.requires.base_value, c.loop-b.invariant.1.frame.long)

pub loop-b-preserved : goal.loop-b-preserved
loop-b-preserved c = (
  omega (arith, c.loop-b-test.true),
  rw c.add_word.ensures
      (pairs_on _ _ _ _ _ _ _ c.loop-b.invariant.1 _ c.pair_of-p.ensures c.requires.base_value (inside (shown c.args.grammar) _ _ _ _ c.requires.i_bound.0 c.requires.i_bound.2 c.requires.base_value) _ _ c.symbol_count-symbols.ensures.0
      c.sum_splits-more.ensures),
)
