-- The bytes are those of the decoded rule, and its symbol is below N.
use Rattle.image.proofs.Outcomes.{taken}
use Rattle.lookup.proofs.Read.{leaf_read}
use Rattle.lookup.proofs.leaf_of.Goals as goal

pub returns : goal.returns
returns c = leaf_read _ (taken c.args.grammar.accepted).sound _ _ c.requires c.symbol_of.ensures.0 c.event_of.ensures.0
