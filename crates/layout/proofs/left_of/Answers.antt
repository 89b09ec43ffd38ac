-- That byte of the rule is what the decoded grammar has there.
use mathlib.Core.Path.{◌∙◌}
use Rattle.layout.proofs.Decoded.{left_at}
use Rattle.layout.proofs.left_of.Goals as goal

pub returns : goal.returns
returns c = (c.rule_byte.ensures.0 ∙ left_at _ _ c.requires, c.rule_byte.ensures.1)
