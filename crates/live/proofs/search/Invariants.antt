-- The invariant: the set has what the search starts with, and nothing that is not sought. Each round that adds to it makes the word larger.
use Prim.Native.Nat.{◌-◌, ◌^◌}
use Rattle.layout.specs.Layout.{decode}
use Rattle.live.specs.Search.{Starts}
use Rattle.live.proofs.search.Given as goal

abbrev pub invariant-loop-set : goal.invariant-loop-set
invariant-loop-set l = Starts l.sought (decode l.image) l.set

abbrev pub decreases-loop-set : goal.decreases-loop-set
decreases-loop-set l = 2 ^ 64 - l.set
