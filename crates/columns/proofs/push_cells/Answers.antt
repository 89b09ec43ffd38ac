-- After the clearing the column holds only its event; each split adds at most 2 ^ 24 firings, and when all are pushed the column is filled.
use mathlib.Core.Path.{◌≡◌}
use Prim.Native.Nat.{◌+◌, ◌-◌}
use native.Mathlib.Omega.{arith}
use Rattle.columns.proofs.Pushes.{only_column, late_start, late_step, late_done}
use Rattle.columns.proofs.push_cells.Goals as goal

pub loop-j-init : goal.loop-j-init
loop-j-init c =
    let e = rw c.cell_at-first.ensures at c.clear_cells.ensures in
    let z : c.args.q + 1 - 1 ≡ c.args.q = omega arith in (
      omega arith,
      omega arith,
      omega (arith, c.fire_event-leaf.ensures.1),
      rw z (late_start _ _ _ _ c.args.chart.now _ c.fire_event-leaf.result (omega (arith, c.cell_at-first.ensures))
          (rw e.0.long (omega (arith, c.cell_at-first.ensures, c.requires.q_bound.1))) e.1 e.0 c.fire_event-leaf.ensures.0),
    )

pub loop-j-preserved : goal.loop-j-preserved
loop-j-preserved c = (
  omega (arith, c.loop-j-test.true),
  omega (arith, c.loop-j.invariant.1),
  omega (arith, c.loop-j.invariant.1, c.loop-j.invariant.2, c.push_split-count.ensures.1, c.loop-j-test.true),
  late_step _ _ _ (c.loop-j.j - 1 - 1) _ _ _ _ _ _ (omega (arith, c.loop-j-test.true, c.loop-j.invariant.1)) (omega (arith, c.loop-j-test.true)) c.loop-j.invariant.3 c.push_split-count.ensures.0,
)

pub returns : goal.returns
returns c =
    let e = rw c.cell_at-first.ensures at c.clear_cells.ensures in
    let z : c.loop-j.j - 1 ≡ 0 = omega (arith, c.loop-j.invariant.0, c.loop-j-test.false) in (
      late_done _ _ _ _ _ _ _ (only_column _ _ _ _ c.args.chart.now _ c.fire_event-leaf.result (omega (arith, c.cell_at-first.ensures))
          (rw e.0.long (omega (arith, c.cell_at-first.ensures, c.requires.q_bound.1))) e.1 e.0 c.fire_event-leaf.ensures.0) (rw z at c.loop-j.invariant.3),
      omega (arith, c.loop-j.invariant.1, c.loop-j.invariant.2, c.requires.q_bound.0),
    )
