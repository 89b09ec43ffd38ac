-- With marks that start empty, or without.
use Rattle.marks.proofs.Shows.{lefts_start}
use native.Mathlib.Omega.{arith}
use Rattle.columns.proofs.fill_chart.Goals as goal

pub fill_columns-requires-clause-events_len_bound_2 : goal.fill_columns-requires-clause-events_len_bound_2
fill_columns-requires-clause-events_len_bound_2 c = λ there. (c.pay.ensures c.if-pay.true, lefts_start _ _ 12576 (omega arith))
