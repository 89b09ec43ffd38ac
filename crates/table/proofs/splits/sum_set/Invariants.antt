-- The invariant: all splits of the set but those that are left are added.
use Prim.Native.Nat.{ℕ, ◌+◌}
use Rattle.table.specs.Fill.{split_adds}
use Rattle.table.proofs.Walks.{split_small}
use Rattle.table.proofs.Sets.{Added}
use Rattle.table.proofs.splits.sum_set.Given as goal

abbrev pub invariant-loop-x : goal.invariant-loop-x
invariant-loop-x l = Added l.splits (λ (x : ℕ). split_adds l.table l.symbols l.left l.right l.i l.k (l.from + x)) (λ x. split_small l.table l.symbols l.left l.right l.i l.k (l.from + x)) l.total l.x-iterator
