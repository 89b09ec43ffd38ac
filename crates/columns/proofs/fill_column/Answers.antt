-- Without marks nothing is said of them; with marks the column's own start empty.
use Rattle.marks.proofs.Shows.{rights_start}
use native.Mathlib.Omega.{arith}
use Rattle.columns.proofs.fill_column.Goals as goal

pub fill_cells-requires-clause-in_use : goal.fill_cells-requires-clause-in_use
fill_cells-requires-clause-in_use c = (omega (arith, c.if-lefts-lt-LEFTS.false), λ there. (c.requires.q_bound.2 there, rights_start _ _ _))
