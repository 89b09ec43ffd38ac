-- The marks show all splits; the word worked out is stored where the cell's number says, and nowhere else, and marked.
use Rattle.image.proofs.Outcomes.{taken}
use Rattle.columns.proofs.Fills.{cell_stored}
use Rattle.groups.proofs.Read.{parts_small}
use Rattle.columns.proofs.Shows.{cell_met, shown_stored}
use native.Mathlib.Omega.{arith}
use Rattle.columns.proofs.fill_cell.Goals as goal

pub returns : goal.returns
returns c = let m = c.requires.in_use.1 c.requires.in_use.0 in (
  cell_stored _ _ _ _ _ c.fire_marks-f.result c.cell_at-at.ensures (omega arith) (cell_met _ _ _ _ _ _ c.requires.i_lt_k.0 m.0 m.1 (parts_small _ (taken c.args.grammar.accepted).sound) _ c.fire_marks-f.ensures.0),
  omega (arith, c.fire_marks-f.ensures.1),
  shown_stored c.args.chart.now _ _ _ _ _ _ _ _ c.requires.i_lt_k.0 c.cell_at-at.ensures (omega arith) c.mark_cell.ensures c.requires.in_use.1,
)
