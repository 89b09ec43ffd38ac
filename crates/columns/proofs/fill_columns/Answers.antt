-- The cells of a column lie in the chart, and where there are marks there are at most 96 columns, so that the next one is shown too.
use mathlib.Core.Path.{refl, ◌∙◌}
use Prim.Native.Nat.{◌+◌}
use lib.ListN.{length}
use Rattle.derivation.proofs.Columns.{cell_within}
use Rattle.columns.proofs.Fills.{columns_start, columns_step}
use Rattle.marks.proofs.Shows.{lefts_next}
use native.Mathlib.Omega.{arith}
use Rattle.columns.proofs.fill_columns.Goals as goal

pub loop-q-init : goal.loop-q-init
loop-q-init c = (refl, omega arith, refl, omega arith, columns_start _ _ _, refl, λ there l. (c.requires.events_len_bound_2 there).1)

pub fill_column-count-requires-clause-q_bound : goal.fill_column-count-requires-clause-q_bound
fill_column-count-requires-clause-q_bound c =
    let w = cell_within (length c.args.events.now) c.loop-q.q (c.loop-q.q + 1) (omega arith) (omega arith) in
    (omega (arith, w), omega (arith, w), λ there. c.loop-q.invariant.6 there (omega (arith, (c.requires.events_len_bound_2 (omega (arith, c.loop-q.invariant.5, there))).0)))

pub loop-q-preserved : goal.loop-q-preserved
loop-q-preserved c = (
  refl,
  omega arith,
  c.fill_column-count.auto.chart ∙ c.loop-q.invariant.2,
  omega (arith, c.fill_column-count.ensures.1, c.loop-q.invariant.3),
  columns_step _ _ _ _ _ _ _ _ c.loop-q.invariant.4 c.fill_column-count.ensures.0,
  c.fill_column-count.auto.lefts ∙ c.loop-q.invariant.5,
  λ there h. lefts_next _ _ _ _ h (c.fill_column-count.ensures.2 there),
)
