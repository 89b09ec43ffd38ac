-- The decoded grammar has as many pair rules as the header says.
use mathlib.Core.Path.{◌∙◌, sym}
use Rattle.layout.proofs.Decoded.{pair_count}
use Rattle.layout.proofs.pair_count.Goals as goal

pub returns : goal.returns
returns c = (c.word_at.ensures.0 ∙ sym (pair_count _), c.word_at.ensures.1)
