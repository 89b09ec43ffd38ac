-- The invariant: the words of the two parts stand where the next split has them, and the sum is that of the splits passed.
use Rattle.table.proofs.Walks.{Walk}
use Rattle.table.proofs.splits.sum_all.Given as goal

abbrev pub invariant-loop-j : goal.invariant-loop-j
invariant-loop-j l = Walk l.table l.symbols l.left l.right l.i l.k l.first l.second l.step l.total l.j
