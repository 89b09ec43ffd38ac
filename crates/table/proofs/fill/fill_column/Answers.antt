-- The column's own marks start empty.
use Rattle.marks.proofs.Shows.{rights_start}
use Rattle.table.proofs.fill.fill_column.Goals as goal

pub fill_cells-requires-else-lefts-lt-LEFTS-clause-shown : goal.fill_cells-requires-else-lefts-lt-LEFTS-clause-shown
fill_cells-requires-else-lefts-lt-LEFTS-clause-shown c = λ there. (c.requires.lefts there, rights_start _ _ _)
