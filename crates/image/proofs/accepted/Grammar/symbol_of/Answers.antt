-- The rules of an accepted image are all there.
use Rattle.image.proofs.Outcomes.{taken}
use Rattle.image.proofs.accepted.Grammar.symbol_of.Goals as goal

pub symbol_of-requires : goal.symbol_of-requires
symbol_of-requires c = record { whole = (taken c.args.self.accepted).whole; below = c.requires }
