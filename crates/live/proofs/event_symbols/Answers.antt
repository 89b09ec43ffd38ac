-- An event rule's symbol derives its event, and a sound grammar has it below 64, so it has a bit in the set.
use native.Mathlib.Omega.{arith}
use mathlib.Core.Path.{subst⁻¹}
use Rattle.layout.specs.Layout.{decode}
use Rattle.live.proofs.Searches.{Begun, begun_none, begun_more, symbol_small}
use Rattle.live.proofs.event_symbols.Goals as goal

pub loop-r-init : goal.loop-r-init
loop-r-init c = begun_none _

pub put_bit-set-requires : goal.put_bit-set-requires
put_bit-set-requires c = (symbol_small (decode c.args.image.now) c.requires.1 c.loop-r.r _ (omega arith) c.symbol_of.ensures.0, omega arith)

pub loop-r-preserved : goal.loop-r-preserved
loop-r-preserved c = let g = decode c.args.image.now in
    subst⁻¹ (Begun g _) c.put_bit-set.ensures (begun_more g _ _ _ (omega arith) c.symbol_of.ensures.0 c.loop-r.invariant)
