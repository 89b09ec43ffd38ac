-- That byte of the rule is what the decoded grammar has there.
use mathlib.Core.Path.{◌∙◌}
use Rattle.layout.proofs.Decoded.{symbol_at}
use Rattle.layout.proofs.symbol_of.Goals as goal

pub returns : goal.returns
returns c = (c.rule_byte.ensures.0 ∙ symbol_at _ _ c.requires.below, c.rule_byte.ensures.1)
