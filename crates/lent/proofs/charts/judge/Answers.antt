-- The large words are enough for any.
use Rattle.std.proofs.Common.{lit<}
use Rattle.lent.proofs.Over.{cells_most}
use Rattle.lent.proofs.charts.judge.Goals as goal

pub judge_sized-requires-else-need-le-SMALL : goal.judge_sized-requires-else-need-le-SMALL
judge_sized-requires-else-need-le-SMALL c = (c.requires, cells_most _ c.requires.few, lit< tt)
