-- What two words share, which is nothing where the column has no split in that half.
use Rattle.marks.proofs.Marks.{common_is, none_common}
use Rattle.marks.proofs.common.Goals as goal

pub returns-then-column-half-eq0 : goal.returns-then-column-half-eq0
returns-then-column-half-eq0 c = none_common _ _ _ _ _ _ c.requires.a_bound.1 c.requires.a_bound.2 c.requires.a_bound.3 c.if-column-half-eq0.true

pub returns : goal.returns
returns c = common_is _ _ _ _ _ _
