-- With marks that start empty, or without.
use Rattle.image.proofs.Outcomes.{taken}
use Rattle.marks.proofs.Shows.{lefts_start}
use Rattle.table.proofs.fill_table.Goals as goal

pub fill_columns-requires-clause-events_len_bound_2 : goal.fill_columns-requires-clause-events_len_bound_2
fill_columns-requires-clause-events_len_bound_2 c = λ there. (c.marks_pay.ensures c.if-marks_pay.true, lefts_start _ _ 12576 (taken c.args.grammar.accepted).sound.range.symbols)
