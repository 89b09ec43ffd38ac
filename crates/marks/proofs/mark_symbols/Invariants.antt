-- The invariant: the symbols of the word but those that are left are entered.
use Rattle.marks.proofs.Marks.{Part}
use Rattle.marks.proofs.mark_symbols.Given as goal

abbrev pub invariant-loop-a : goal.invariant-loop-a
invariant-loop-a l = Part l.initial.marks l.r l.j l.word l.marks l.a-iterator
