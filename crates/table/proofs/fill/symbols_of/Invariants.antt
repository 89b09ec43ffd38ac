-- The invariant: the words before a are gathered.
use Prim.Native.Nat.{◌≤◌}
use lib.ListN.{length}
use Rattle.table.proofs.Sets.{Gathered}
use Rattle.table.proofs.fill.symbols_of.Given as goal

abbrev pub invariant-loop-a : goal.invariant-loop-a
invariant-loop-a l = (l.a ≤ length l.cell) × Gathered l.cell 0 l.a l.word
