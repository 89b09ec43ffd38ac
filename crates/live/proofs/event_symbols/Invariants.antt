-- The invariant: the set has the symbol of every event rule passed so far, and nothing that derives no events.
use Rattle.layout.specs.Layout.{decode}
use Rattle.live.proofs.Searches.{Begun}
use Rattle.live.proofs.event_symbols.Given as goal

abbrev pub invariant-loop-r : goal.invariant-loop-r
invariant-loop-r l = Begun (decode l.image) l.r l.set
