-- Each refusal is a row of the table; past all of them the column gives the answer.
use native.Mathlib.Omega.{arith}
use borrow.Author.Rules.{rules}
use mathlib.Core.Path.{◌≡◌}
use Prim.Native.Nat.{◌+◌, ◌≤◌}
use lib.ListN.{length}
use Rattle.derivation.proofs.Columns.{cells_column, cells_more}
use Rattle.image.proofs.Outcomes.{taken}
use Rattle.session.proofs.Adds.{column_fits}
use Rattle.session.proofs.add.Goals as goal

pub fill_one-firings-requires : goal.fill_one-firings-requires
fill_one-firings-requires c =
    let s = c.args.session in
    let l : length s.chart ≡ 528 = search rules in
    let few : s.count + 1 ≤ 32 = omega arith in
    record { q_bound = (omega arith, omega (arith, column_fits (s.count + 1) few)) }

pub top_has-admitted-requires : goal.top_has-admitted-requires
top_has-admitted-requires c =
    let s = c.args.session in
    let l : length s.chart ≡ 528 = search rules in
    let few : s.count + 1 ≤ 32 = omega arith in
    ((taken c.in_ok-grammar.grammar.accepted).whole.long, omega arith, omega (arith, c.fill_one-firings.auto.chart, cells_more s.count, cells_column s.count, column_fits (s.count + 1) few))
