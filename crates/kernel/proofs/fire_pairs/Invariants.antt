-- The invariant: all symbols of the left word but those of the iterator are visited.
use Prim.Native.Nat.{ℕ}
use Rattle.image.specs.Shown.{shown}
use Rattle.kernel.specs.Apply.{over}
use Rattle.kernel.proofs.Visits.{Visit}
use Rattle.kernel.proofs.fire_pairs.Given as goal

abbrev pub invariant-loop-a : goal.invariant-loop-a
invariant-loop-a l = Visit (shown l.grammar) l.left (λ (s : ℕ). over l.right) l.initial.f l.f l.a-iterator
