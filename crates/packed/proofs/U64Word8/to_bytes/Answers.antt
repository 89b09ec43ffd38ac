-- The library's bytes of a number show it.
use mathlib.Core.Path.{ap, ◌∙◌}
use native.Mathlib.Omega.{arith}
use Rattle.packed.specs.Packed.{value}
use Rattle.packed.proofs.Words.{value_bytes}
use Rattle.packed.proofs.U64Word8.to_bytes.Goals as goal

pub returns : goal.returns
returns c = ap value c.to_le_bytes.ensures ∙ value_bytes 8 c.args.self (omega arith)
