-- An event without a symbol leaves the column empty; otherwise the cell of the event is there first, and each longer one is worked out by the marks of the shorter ones.
use mathlib.Core.Path.{◌≡◌, refl, ◌∙◌}
use Rattle.image.specs.Shown.{shown}
use Rattle.columns.proofs.Fills.{part_start, part_step, part_done}
use Rattle.columns.proofs.Shows.{shown_stored, column_empty, column_shown}
use native.Mathlib.Omega.{arith}
use Rattle.columns.proofs.fill_cells.Goals as goal

pub returns-then-leaf-eq0 : goal.returns-then-leaf-eq0
returns-then-leaf-eq0 c =
    let e = rw c.cell_at-from.ensures at c.clear_cells.ensures in
    let none : c.fire_event-leaf.result.word ≡ 0 = omega arith in (
      column_empty (shown c.args.grammar) c.args.event c.args.q _ c.args.chart.now _ c.fire_event-leaf.result c.cell_at-at.ensures (omega (arith, c.cell_at-at.ensures, c.requires.q_bound.1)) c.fire_event-leaf.ensures.0 none e.0 e.1,
      omega (arith, c.fire_event-leaf.ensures.1),
      column_shown (shown c.args.grammar) c.args.event c.args.q _ c.args.chart.now _ c.fire_event-leaf.result c.cell_at-at.ensures (omega (arith, c.cell_at-at.ensures, c.requires.q_bound.1)) c.fire_event-leaf.ensures.0 none e.0 e.1 _ _
          (shown_stored c.args.chart.now _ _ _ _ _ _ _ _ (omega arith) c.cell_at-at.ensures (omega arith) c.mark_cell.ensures c.requires.in_use.1),
    )

pub loop-i-init : goal.loop-i-init
loop-i-init c = (
  omega arith,
  omega arith,
  part_start _ _ _ _ c.args.chart.now c.fire_event-leaf.result c.cell_at-at.ensures (omega arith) c.fire_event-leaf.ensures.0,
  refl,
  refl,
  shown_stored c.args.chart.now _ _ _ _ _ _ _ _ (omega arith) c.cell_at-at.ensures (omega arith) c.mark_cell.ensures c.requires.in_use.1,
)

pub loop-i-preserved : goal.loop-i-preserved
loop-i-preserved c = (
  omega (arith, c.loop-i.invariant.0),
  omega (arith, c.fill_cell-count.ensures.1, c.loop-i.invariant.1, c.loop-i.invariant.0, c.loop-i-test.true),
  part_step _ _ _ c.loop-i.i _ _ _ _ _ _ c.loop-i.invariant.2 c.fill_cell-count.ensures.0 (omega (arith, c.loop-i-test.true)) c.loop-i.invariant.0,
  c.fill_cell-count.auto.lefts ∙ c.loop-i.invariant.3,
  c.fill_cell-count.auto.rights ∙ c.loop-i.invariant.4,
  c.fill_cell-count.ensures.2,
)

pub returns : goal.returns
returns c = let z : c.loop-i.i ≡ 0 = omega arith in
    (part_done _ _ _ _ _ _ _ _ c.cell_at-at.ensures (rw z at c.loop-i.invariant.2), omega arith, rw z at c.loop-i.invariant.5)
