-- Nothing refuses, so that the columns give the answer.
use native.Mathlib.Omega.{arith}
use mathlib.Core.Path.{refl, ap, ◌∙◌}
use lib.ListN.{length}
use Rattle.derivation.proofs.Columns.{cells_small}
use Rattle.layout.specs.Layout.{decode}
use Rattle.columns.specs.Fill.{ones_to}
use Rattle.image.proofs.Outcomes.{taken}
use Rattle.chart.proofs.Judges.{answers, answer, judge_passes}
use Rattle.chart.proofs.judge_accepted.Goals as goal

pub items_of-items-requires : goal.items_of-items-requires
items_of-items-requires c = omega (arith, cells_small (length c.args.events.now) (omega (arith, c.requires.few)))

pub top_has-admitted-requires : goal.top_has-admitted-requires
top_has-admitted-requires c =
    ((taken c.args.grammar.accepted).whole.long, omega (arith, c.requires.few), omega (arith, c.requires.room, c.fill_chart-firings.auto.chart))

pub returns : goal.returns
returns c =
    let b = c.args.grammar.bytes.now in
    let w = c.args.events.now in
    let a = taken c.args.grammar.accepted in
    answers b w _ _ _ (judge_passes b w _ (record { image = a; few = c.requires.few; room = c.requires.room }))
    (answer (decode b) a.sound w _ _ _ c.fill_chart-firings.ensures _
    c.fill_chart-firings.auto.chart c.top_has-admitted.ensures
    (c.items_of-items.ensures ∙ ap (ones_to _) c.cell_count.ensures) refl)
