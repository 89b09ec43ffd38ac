-- The last word of the block has every symbol that is marked in it.
use Rattle.marks.proofs.Marks.{seen_is}
use Rattle.marks.proofs.seen.Goals as goal

pub returns : goal.returns
returns c = seen_is _ _ c.requires.2
