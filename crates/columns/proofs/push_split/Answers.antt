-- Where the right part is empty no rule matches. What is made ready for all symbols of the left parts is ready for those of one, and each left part is read as it was.
use mathlib.Core.Path.{◌≡◌, sym, ap, ◌∙◌}
use native.Mathlib.Omega.{arith}
use lib.ListN.{length, take}
use Prim.Native.Nat.{◌+◌, ◌≤◌, ◌<◌}
use Rattle.derivation.specs.Chart.{cell_at, cells_before}
use Rattle.derivation.proofs.Columns.{before_mono}
use Rattle.columns.proofs.Pushes.{pushed_start, pushed_none, pushed_step, left_at, left_ready}
use Rattle.columns.proofs.push_split.Goals.{After-split_at_mut-older}
use Rattle.columns.proofs.push_split.Goals as goal

front : (c : After-split_at_mut-older) → take (cell_at 0 c.args.k) c.args.chart.now ≡ c.split_at_mut-older.result.0.now
front c = sym (rw c.cell_at.ensures at c.split_at_mut-older.ensures.front)

within : (c : After-split_at_mut-older) → cells_before c.args.j + c.args.j ≤ length c.split_at_mut-older.result.0.now
within c = omega (arith, c.split_at_mut-older.ensures.front_len, c.cell_at.ensures, before_mono _ _ c.requires.j_lt_k.1)

pub returns-then-right-eq0 : goal.returns-then-right-eq0
returns-then-right-eq0 c = (pushed_none _ _ _ _ (sym c.read_cell-right.ensures ∙ c.if-right-eq0.true), omega arith)

pub overflow_add-lefts : goal.overflow_add-lefts
overflow_add-lefts c = omega (arith, within c, c.cell_at-first.ensures)

pub offset_bounds-older-first : goal.offset_bounds-older-first
offset_bounds-older-first c = omega (arith, within c, c.cell_at-first.ensures)

pub slice_bounds-lefts-end : goal.slice_bounds-lefts-end
slice_bounds-lefts-end c = omega (arith, within c, c.cell_at-first.ensures)

pub loop-i-init : goal.loop-i-init
loop-i-init c = (omega arith, omega arith, rw (front (goal.at.loop-i-init c).After-split_at_mut-older, sym c.split_at_mut-older.ensures.value) (pushed_start _ _ _ _))

pub fire_pairs-f-requires-clause-ready : goal.fire_pairs-f-requires-clause-ready
fire_pairs-f-requires-clause-ready c = left_ready _ _ _ _ _ _ c.loop-i-test.true c.standing.ensures c.make_ready.ensures

pub loop-i-preserved : goal.loop-i-preserved
loop-i-preserved c =
    let s = c.split_at_mut-older.ensures in
    let inside : c.loop-i.i < c.args.j = omega (arith, c.loop-i-test.true) in (
      omega arith,
      omega (arith, c.loop-i.invariant.1, c.fire_pairs-f.ensures.1),
      pushed_step _ _ _ _ _ _ _ _ _ c.fire_pairs-f.result inside
          (ap length (front (goal.at.loop-i-preserved c).After-split_at_mut-older) ∙ s.front_len ∙ c.cell_at.ensures)
          (omega (arith, c.loop-i.auto.column, s.back_len, c.cell_at.ensures, c.requires.j_lt_k.3))
          (left_at _ _ _ _ _ _ _ s.front c.cell_at-first.ensures c.cell_at.ensures inside c.requires.j_lt_k.1)
          c.loop-i.invariant.2 (rw c.read_cell-right.ensures at c.fire_pairs-f.ensures.0),
    )

pub returns : goal.returns
returns c =
    let z : c.loop-i.i ≡ c.args.j = omega (arith, c.loop-i.invariant.0, c.loop-i-test.false) in (
      rw (sym (front (goal.at.returns c).After-split_at_mut-older)) (rw z at c.loop-i.invariant.2),
      omega (arith, c.loop-i.invariant.0, c.loop-i.invariant.1, c.requires.j_lt_k),
    )
