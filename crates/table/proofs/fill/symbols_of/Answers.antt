-- A word more puts its bit in the set.
use mathlib.Core.Path.{◌∙◌}
use native.Mathlib.Nat.{zero-add}
use Rattle.table.proofs.Sets.{gathered_start, gathered_step, some_is}
use native.Mathlib.Omega.{arith}
use Rattle.table.proofs.fill.symbols_of.Goals as goal

pub loop-a-init : goal.loop-a-init
loop-a-init c = (omega arith, gathered_start _ _)

pub loop-a-preserved : goal.loop-a-preserved
loop-a-preserved c = (omega (arith, c.loop-a-test.true), rw c.put_bit-word.ensures (gathered_step _ _ _ _ _ (c.from.ensures ∙ rw zero-add (some_is _)) c.loop-a.invariant.1))
