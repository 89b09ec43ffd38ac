-- The splits at which neither word is 0, in two halves.
use mathlib.Core.Path.{ap, ap₂, ◌∙◌}
use Prim.Native.Nat.{◌+◌}
use Rattle.table.specs.Table.{held}
use Rattle.table.proofs.Marked.{halves_add, half_inside}
use native.Mathlib.Omega.{arith}
use Rattle.table.proofs.splits.sum_met.Goals as goal

pub sum_set-first-requires : goal.sum_set-first-requires
sum_set-first-requires c = (c.requires.in_reach.0, omega arith, half_inside _ _ _ _ _ _ c.requires.parts _ _ c.requires.in_reach.0.left c.requires.in_reach.0.right 0 _ (omega arith) c.common-low.ensures)

pub sum_set-second-requires : goal.sum_set-second-requires
sum_set-second-requires c = (c.requires.in_reach.0, omega arith, half_inside _ _ _ _ _ _ c.requires.parts _ _ c.requires.in_reach.0.left c.requires.in_reach.0.right 1 _ (omega arith) c.common-high.ensures)

pub returns : goal.returns
returns c = c.hold.ensures
    ∙ ap held (ap₂ ◌+◌ c.sum_set-first.ensures.0 c.sum_set-second.ensures.0
    ∙ halves_add _ _ _ _ _ _ c.requires.parts _ _ c.requires.in_reach.0.left c.requires.in_reach.0.right _ _ c.common-low.ensures c.common-high.ensures)
