-- The decoded grammar has as many event rules as the header says.
use mathlib.Core.Path.{◌∙◌, sym}
use Rattle.layout.proofs.Decoded.{leaf_count}
use Rattle.layout.proofs.leaf_count.Goals as goal

pub returns : goal.returns
returns c = (c.word_at.ensures.0 ∙ sym (leaf_count _), c.word_at.ensures.1)
