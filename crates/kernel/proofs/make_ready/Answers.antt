-- What the rules of a symbol add to an empty cell stands in its place, and the next visits leave that alone.
use mathlib.Core.Path.{◌∙◌}
use lib.ListN.{length-set}
use native.Mathlib.Omega.{arith}
use Rattle.kernel.proofs.Readies.{made_more, made_all}
use Rattle.kernel.proofs.make_ready.Goals as goal

pub loop-a-preserved : goal.loop-a-preserved
loop-a-preserved c = (
  length-set c.loop-a.made _ _ ∙ c.loop-a.invariant.0,
  made_more _ _ _ _ _ _ _ _ (omega (arith, c.in-Some.ensures.steps.0, c.loop-a.invariant.0)) c.in-Some.ensures.steps.2 c.loop-a.invariant.1 c.fire_group.ensures,
)

pub returns : goal.returns
returns c = made_all _ _ _ _ _ c.in-None.ensures.steps.0 c.loop-a.invariant.1
