-- A refusal leaves the chart as it was; past all of them the words that the bytes show are judged.
use mathlib.Core.Path.{refl}
use Rattle.boundary_bytes.proofs.Answers.{lends_chart, judge_answers}
use Rattle.boundary_bytes.proofs.services.judge.Goals as goal

pub judge-requires : goal.judge-requires
judge-requires c = lends_chart c.args.image.now c.args.events.now c.args.chart.now _ c.read_2-n.ensures.out_after _ refl c.in_ok-grammar.ensures.tested.refusal

pub returns : goal.returns
returns c =
    judge_answers c.args.image.now c.args.events.now c.args.chart.now _ c.read_2-n.ensures.out_after _ refl c.in_ok-grammar.ensures.tested.refusal _ _
    (rw c.in_ok-grammar.ensures.bytes at c.judge.ensures)
