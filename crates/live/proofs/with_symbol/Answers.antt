-- A rule of which a part is not in the set does not apply; else its symbol is put in, which derives some events where the parts do.
use native.Mathlib.Omega.{arith}
use mathlib.Core.Path.{sym, ◌∙◌, subst, subst⁻¹}
use Rattle.bits.specs.Word.{Has}
use Rattle.layout.specs.Layout.{decode}
use Rattle.live.specs.declared.Sought.TheVariants.{Deriving}
use Rattle.live.specs.Search.{Stays, Grown}
use Rattle.live.proofs.Searches.{symbol_small, left_small, right_small, symbol_added}
use Rattle.live.proofs.with_symbol.Goals as goal

pub bit_of-requires : goal.bit_of-requires
bit_of-requires c = left_small (decode c.args.image.now) c.requires.1 c.args.r _ c.requires.0.below c.requires.0.from c.left_of-left.ensures.0

pub bit_of-requires-then-bit_of-eq1 : goal.bit_of-requires-then-bit_of-eq1
bit_of-requires-then-bit_of-eq1 c = right_small (decode c.args.image.now) c.requires.1 c.args.r _ c.requires.0.below c.requires.0.from c.right_of-right.ensures.0

pub put_bit-requires : goal.put_bit-requires
put_bit-requires c = (symbol_small (decode c.args.image.now) c.requires.1 c.args.r _ c.requires.0.below c.symbol_of.ensures.0, omega arith)

pub returns-then-bit_of-eq1-2 : goal.returns-then-bit_of-eq1-2
returns-then-bit_of-eq1-2 c = let g = decode c.args.image.now in
    subst⁻¹ (Grown Deriving g c.args.set (Stays Deriving g c.args.set c.args.r)) c.put_bit.ensures
    (symbol_added g c.args.r c.requires.0.from c.requires.0.below c.args.set _ c.symbol_of.ensures.0
    (subst (Has c.args.set) c.left_of-left.ensures.0 (sym c.bit_of.ensures ∙ c.if-bit_of-eq1.true))
    (subst (Has c.args.set) c.right_of-right.ensures.0 (sym c.bit_of-then-bit_of-eq1.ensures ∙ c.if-bit_of-eq1-2.true)))
