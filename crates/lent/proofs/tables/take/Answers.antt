-- The smallest size that holds the need; the largest holds any.
use Rattle.std.proofs.Common.{lit<}
use Rattle.image.proofs.Outcomes.{taken}
use Rattle.lent.proofs.Over.{words_most}
use Rattle.lent.proofs.tables.take.Goals as goal

pub take_sized-requires-in_default : goal.take_sized-requires-in_default
take_sized-requires-in_default c = (c.requires, words_most _ _ (taken c.args.grammar.accepted).sound.range.symbols c.requires.few, lit< tt)
