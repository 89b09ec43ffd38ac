-- A rule over the event adds one to the word of its symbol, and any other adds nothing.
use mathlib.Core.Path.{◌∙◌}
use native.Mathlib.Omega.{arith}
use Rattle.table.proofs.Cells.{summed_start, leaves_on, leaves_skip}
use Rattle.table.proofs.fill.add_leaves.Goals as goal
use Rattle.table.proofs.fill.add_leaves.Goals.{then-l-event, else-l-event}

pub loop-r-init : goal.loop-r-init
loop-r-init c = (omega arith, summed_start _ _ _ _ c.requires.zeros)

pub loop-r-preserved : goal.loop-r-preserved
loop-r-preserved c = elim c.if-l-event.branch [
  | then-l-event w ↦ (omega arith, rw (w.table-is ∙ w.add_word.ensures) (leaves_on _ _ _ _ _ _ c.loop-r.invariant.1 _ c.leaf_of-l.ensures w.if-l-event.true c.requires.image_in_bounds))
  | else-l-event w ↦ (omega arith, rw w.table-is (leaves_skip _ _ _ _ _ _ c.loop-r.invariant.1 _ c.leaf_of-l.ensures w.if-l-event.false))
]
