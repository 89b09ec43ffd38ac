-- The invariant: all symbols that are seen in the block but those of the iterator are visited.
use Prim.Native.Nat.{ℕ}
use Rattle.image.specs.Shown.{shown}
use Rattle.kernel.specs.Apply.{along}
use Rattle.kernel.proofs.Visits.{Visit}
use Rattle.kernel.proofs.fire_marks.Given as goal

abbrev pub invariant-loop-a : goal.invariant-loop-a
invariant-loop-a l = Visit (shown l.grammar) l.left (λ (a : ℕ). along l.marks l.r a l.column) l.initial.f l.f l.a-iterator
