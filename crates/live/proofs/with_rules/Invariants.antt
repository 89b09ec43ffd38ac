-- The invariant: where nothing was added so far, no rule passed so far leaves the set.
use Rattle.bits.specs.Truth.{Every}
use Rattle.layout.specs.Layout.{decode}
use Rattle.live.specs.Search.{Stays, Grown}
use Rattle.live.proofs.with_rules.Given as goal

abbrev pub invariant-loop-r : goal.invariant-loop-r
invariant-loop-r l = Grown l.sought (decode l.image) l.set (Every l.r (Stays l.sought (decode l.image) l.set)) l.more
