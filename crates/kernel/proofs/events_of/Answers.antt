-- The bit of the event goes in at its place, and no other bit goes.
use mathlib.Core.Path.{◌∙◌}
use lib.ListN.{length-set}
use Rattle.image.specs.Shown.{shown}
use Rattle.kernel.proofs.Leaves.{heard_step}
use native.Mathlib.Omega.{arith}
use Rattle.kernel.proofs.events_of.Goals as goal

pub loop-r-preserved : goal.loop-r-preserved
loop-r-preserved c = (
  omega (arith, c.loop-r-test.true),
  length-set c.loop-r.heard _ _ ∙ c.loop-r.invariant.1,
  rw c.put_bit.ensures (heard_step (shown c.args.grammar) c.loop-r.heard c.loop-r.r c.event_of-event.result c.loop-r.invariant.1 c.event_of-event.ensures.0 c.loop-r.invariant.2),
)
