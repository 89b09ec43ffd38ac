-- The symbol is below 64, and a bit put into 0 is the word of that one bit.
use mathlib.Core.Path.{ap, ◌∙◌}
use Prim.Native.Nat.{ℕ, ◌^◌}
use Rattle.image.specs.Shown.{shown}
use Rattle.image.proofs.Outcomes.{taken}
use Rattle.bits.proofs.Bits.{put_alone}
use Rattle.kernel.proofs.Leaves.{leaf_read}
use native.Mathlib.Omega.{arith}
use Rattle.kernel.proofs.leaf_symbol.Goals as goal

pub put_bit-requires : goal.put_bit-requires
put_bit-requires c = ((leaf_read (shown c.args.grammar) (taken c.args.grammar.accepted).sound c.args.r _ c.requires c.symbol_of.ensures.0).1, omega arith)

pub returns : goal.returns
returns c = c.put_bit.ensures ∙ put_alone _
    ∙ ap (λ (x : ℕ). 2 ^ x) (leaf_read (shown c.args.grammar) (taken c.args.grammar.accepted).sound c.args.r _ c.requires c.symbol_of.ensures.0).0
