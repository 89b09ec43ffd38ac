-- That byte of the rule is what the decoded grammar has there.
use mathlib.Core.Path.{◌∙◌}
use Rattle.layout.proofs.Decoded.{right_at}
use Rattle.layout.proofs.right_of.Goals as goal

pub returns : goal.returns
returns c = (c.rule_byte.ensures.0 ∙ right_at _ _ c.requires, c.rule_byte.ensures.1)
