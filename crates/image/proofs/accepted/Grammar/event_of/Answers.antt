-- The rules of an accepted image are all there.
use Rattle.image.proofs.Outcomes.{taken}
use Rattle.image.proofs.accepted.Grammar.event_of.Goals as goal

pub event_of-requires : goal.event_of-requires
event_of-requires c = record { whole = (taken c.args.self.accepted).whole; below = c.requires }
