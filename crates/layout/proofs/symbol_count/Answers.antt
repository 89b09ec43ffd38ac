-- The decoded grammar has the N of the header.
use mathlib.Core.Path.{◌∙◌, sym}
use Rattle.layout.proofs.Decoded.{symbol_count}
use Rattle.layout.proofs.symbol_count.Goals as goal

pub returns : goal.returns
returns c = (c.byte_at.ensures.0 ∙ sym (symbol_count _), c.byte_at.ensures.1)
