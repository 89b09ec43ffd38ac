-- The ones of both halves.
use mathlib.Core.Path.{ap₂, ◌∙◌}
use Prim.Native.Nat.{◌+◌}
use native.Mathlib.Omega.{arith}
use Rattle.marks.proofs.Marks.{meeting_is}
use Rattle.marks.proofs.meeting.Goals as goal

pub returns : goal.returns
returns c = (
  ap₂ ◌+◌ c.ones.ensures.0 c.ones-2.ensures.0 ∙ meeting_is _ _ _ _ _ _ _ c.common-low.ensures c.common-high.ensures,
  omega (arith, c.ones.ensures.1, c.ones-2.ensures.1),
)
