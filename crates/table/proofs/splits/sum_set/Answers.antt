-- A split of the set is inside the stretch, and adding it leaves the rest to add.
use Rattle.std.proofs.Common.{◌≡◌, ◌+◌, rules}
use Rattle.bits.proofs.Bits.{bit_lt}
use Rattle.table.proofs.Walks.{split_small}
use Rattle.table.proofs.Sets.{added_start, added_step, added_few, added_done}
use native.Mathlib.Omega.{arith}
use Rattle.table.proofs.splits.sum_set.Goals as goal

pub loop-x-init : goal.loop-x-init
loop-x-init c = let e : c.into_iter-x-iterator.result ≡ c.args.splits = search rules in rw e (added_start _ _ _)

pub split_count-requires : goal.split_count-requires
split_count-requires c =
    let s = c.in-Some.ensures.steps in
    let h = c.requires.2 c.in-Some.x s.0 (omega (arith, s.1, c.loop-x.invariant.part c.in-Some.x, bit_lt c.args.splits c.in-Some.x)) in
    (c.requires.0, h.0, h.1)

pub overflow_add-total : goal.overflow_add-total
overflow_add-total c = omega (arith, added_few _ _ _ _ _ c.loop-x.invariant, c.split_count.ensures, split_small c.args.table.now c.args.symbols c.args.left c.args.right c.args.i c.args.k (c.args.from + c.in-Some.x))

pub loop-x-preserved : goal.loop-x-preserved
loop-x-preserved c = let s = c.in-Some.ensures.steps in added_step _ _ _ _ _ _ _ _ s.0 s.2 c.split_count.ensures c.loop-x.invariant

pub returns : goal.returns
returns c = (added_done _ _ _ _ _ c.in-None.ensures.steps.0 c.loop-x.invariant, added_few _ _ _ _ _ c.loop-x.invariant)
