-- The next cell is worked out from those passed, and is among the words that the record needs.
use mathlib.Core.Path.{◌≡◌, ◌∙◌}
use Prim.Native.Nat.{◌+◌, ◌-◌, ◌<◌}
use native.Mathlib.Nat.{le_trans}
use Rattle.table.proofs.Slots.{words_on}
use Rattle.table.proofs.Cells.{framed_cell}
use Rattle.table.proofs.Tables.{done_on}
use native.Mathlib.Omega.{arith}
use Rattle.table.proofs.fill.fill_cells.Goals as goal

pub fill_cell-requires-clause-i_lt_k : goal.fill_cell-requires-clause-i_lt_k
fill_cell-requires-clause-i_lt_k c = (omega arith, omega arith, omega arith, rw c.loop-i.invariant.2.long (le_trans (words_on _ _ _ c.requires.k_in_bounds.0) c.requires.k_in_bounds.2))

pub loop-i-preserved : goal.loop-i-preserved
loop-i-preserved c = let lt : c.loop-i.i - 1 < c.args.k = omega arith in
    let e : c.loop-i.i - 1 + 1 ≡ c.loop-i.i = omega arith in (
      omega (arith, lt),
      done_on _ _ _ _ _ _ lt (rw e c.loop-i.invariant.1) c.fill_cell.ensures.0,
      framed_cell _ _ _ _ _ _ _ lt c.requires.k_in_bounds.0 c.loop-i.invariant.2 c.fill_cell.ensures.0.frame,
      c.fill_cell.auto.lefts ∙ c.loop-i.invariant.3,
      c.fill_cell.auto.rights ∙ c.loop-i.invariant.4,
      c.fill_cell.ensures.1,
    )
