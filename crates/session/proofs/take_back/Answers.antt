-- A count outside 1 to 32 is the row's; else the cells of the last column are its words.
use native.Mathlib.Omega.{arith}
use borrow.Author.Rules.{rules}
use mathlib.Core.Path.{◌≡◌}
use lib.ListN.{length}
use Rattle.session.proofs.Adds.{column_fits}
use Rattle.session.proofs.take_back.Goals as goal

pub clear_cells-requires : goal.clear_cells-requires
clear_cells-requires c =
    let s = c.args.session in
    let l : length s.chart ≡ 528 = search rules in
    omega (arith, column_fits s.count (omega arith))
