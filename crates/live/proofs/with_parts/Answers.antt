-- A rule whose symbol is not in the set does not apply; else both its parts are put in, which can be reached where the symbol can.
use native.Mathlib.Omega.{arith}
use Prim.Native.Nat.{ℕ}
use mathlib.Core.Path.{sym, ap, ◌∙◌, subst, subst⁻¹}
use Rattle.bits.specs.Word.{Has, put}
use Rattle.derivation.proofs.Sound.{pair_symbol}
use Rattle.layout.specs.Layout.{decode}
use Rattle.live.specs.declared.Sought.TheVariants.{Reachable}
use Rattle.live.specs.Search.{Stays, Grown}
use Rattle.live.proofs.Searches.{symbol_small, left_small, right_small, grown_none, parts_added}
use Rattle.live.proofs.with_parts.Goals as goal

pub bit_of-requires : goal.bit_of-requires
bit_of-requires c = symbol_small (decode c.args.image.now) c.requires.1 c.args.r _ c.requires.0.below c.symbol_of.ensures.0

pub put_bit-more-requires : goal.put_bit-more-requires
put_bit-more-requires c = (left_small (decode c.args.image.now) c.requires.1 c.args.r _ c.requires.0.below c.requires.0.from c.left_of-left.ensures.0, omega arith)

pub put_bit-requires : goal.put_bit-requires
put_bit-requires c = (right_small (decode c.args.image.now) c.requires.1 c.args.r _ c.requires.0.below c.requires.0.from c.right_of-right.ensures.0, omega arith)

pub returns-then-bit_of-eq1 : goal.returns-then-bit_of-eq1
returns-then-bit_of-eq1 c = let g = decode c.args.image.now in
    let h = c.symbol_of.ensures.0 ∙ pair_symbol g c.args.r c.requires.0.from c.requires.0.below in
    subst⁻¹ (Grown Reachable g c.args.set (Stays Reachable g c.args.set c.args.r))
    (c.put_bit.ensures ∙ ap (λ (t : ℕ). put t c.right_of-right.result 1) c.put_bit-more.ensures)
    (parts_added g c.args.r c.requires.0.from c.requires.0.below c.args.set _ _ c.left_of-left.ensures.0 c.right_of-right.ensures.0
    (subst (Has c.args.set) h (sym c.bit_of.ensures ∙ c.if-bit_of-eq1.true)))

pub returns-else-bit_of-eq1 : goal.returns-else-bit_of-eq1
returns-else-bit_of-eq1 c = let g = decode c.args.image.now in
    let h = c.symbol_of.ensures.0 ∙ pair_symbol g c.args.r c.requires.0.from c.requires.0.below in
    grown_none Reachable g c.args.set (λ _ x. absurd (c.if-bit_of-eq1.false (c.bit_of.ensures ∙ subst⁻¹ (Has c.args.set) h x)))
