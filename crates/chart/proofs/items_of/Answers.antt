-- No word is counted at first, and each turn counts one word more.
use mathlib.Core.Path.{refl, ap}
use Prim.Native.Nat.{ℕ, ◌<◌}
use native.Mathlib.Omega.{arith}
use lib.ListN.{length-take}
use lib.Seq.{get_or-take}
use Rattle.bits.specs.Sum.{sum}
use Rattle.bits.specs.Bit.{bit}
use Rattle.columns.specs.Fill.{ones_to}
use Rattle.columns.proofs.Fills.{ones_more}
use Rattle.chart.proofs.items_of.Goals as goal

pub loop-word-init : goal.loop-word-init
unfolding ones_to sum
loop-word-init c = (omega arith, omega arith, refl)

pub loop-word-preserved : goal.loop-word-preserved
loop-word-preserved c =
    let here : c.loop-word.word-index < c.args.n = omega (arith, c.loop-word-test.true, length-take c.args.n c.args.chart.now) in (
      omega arith,
      omega arith,
      rw ones_more (omega (arith, ap (λ (w : ℕ). sum 64 (bit w)) (get_or-take c.args.n c.args.chart.now c.loop-word.word-index 0 here))),
    )
