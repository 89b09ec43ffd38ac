-- The cell of the whole record is one of its words, and the start symbol is bit 0 of it; an empty record has the flag instead.
use native.Mathlib.Omega.{arith}
use Rattle.derivation.proofs.Columns.{cell_within}
use Rattle.chart.proofs.top_has.Goals as goal

pub read_cell-requires : goal.read_cell-requires
read_cell-requires c =
    let n = c.args.n in
    omega (arith, cell_within n 0 n (omega arith) (omega arith))
