-- Both words are read where the walk stands, and one step keeps it there.
use mathlib.Core.Path.{refl}
use native.Mathlib.Omega.{arith}
use Rattle.table.proofs.Walks.{walk_start, first_fits, second_fits, small, walk_step}
use borrow.Author.Rules.{scaled_Fits}
use Rattle.table.proofs.splits.sum_all.Goals as goal

pub loop-j-init : goal.loop-j-init
loop-j-init c = walk_start _ _ _ _ _ _ _ _ _ (omega arith) c.slot-first.ensures c.slot-second.ensures refl

pub offset_bounds-table-first : goal.offset_bounds-table-first
offset_bounds-table-first c = scaled_Fits _ _ 4 (first_fits _ _ _ _ _ _ c.requires.0 _ _ _ _ _ c.loop-j.invariant) c.well_formed.0.1

pub bounds-table-first : goal.bounds-table-first
bounds-table-first c = first_fits _ _ _ _ _ _ c.requires.0 _ _ _ _ _ c.loop-j.invariant

pub offset_bounds-table-second : goal.offset_bounds-table-second
offset_bounds-table-second c = scaled_Fits _ _ 4 (second_fits _ _ _ _ _ _ c.requires.0 _ _ _ _ _ c.loop-j.invariant c.loop-j-test.true) c.well_formed.0.1

pub bounds-table-second : goal.bounds-table-second
bounds-table-second c = second_fits _ _ _ _ _ _ c.requires.0 _ _ _ _ _ c.loop-j.invariant
    c.loop-j-test.true

pub overflow_add-total : goal.overflow_add-total
overflow_add-total c = let s = small _ _ _ _ _ _ c.requires.0 _ _ _ _ _ c.loop-j.invariant in
    omega (arith, s.sum)

pub overflow_add-first : goal.overflow_add-first
overflow_add-first c = let s = small _ _ _ _ _ _ c.requires.0 _ _ _ _ _ c.loop-j.invariant in
    omega (arith, s.next_first)

pub overflow_add-second : goal.overflow_add-second
overflow_add-second c = let s = small _ _ _ _ _ _ c.requires.0 _ _ _ _ _ c.loop-j.invariant in
    omega (arith, s.next_second c.loop-j-test.true)

pub loop-j-preserved : goal.loop-j-preserved
loop-j-preserved c = walk_step _ _ _ _ _ _ c.requires.0 _ _ _ _ _ c.loop-j.invariant _ c.loop-j-test.true
    c.held_product.ensures
