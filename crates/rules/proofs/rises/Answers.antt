-- The first rule has no predecessor; every other rule compares with the one before it as their numbers do.
use native.Mathlib.Omega.{arith}
use Rattle.layout.specs.Layout.{decode}
use Rattle.rules.proofs.Order.{rise}
use Rattle.rules.proofs.rises.Goals as goal

pub returns-else-r-eq0 : goal.returns-else-r-eq0
returns-else-r-eq0 c = rw c.lt.ensures (rise (decode c.args.image.now) c.args.r (omega arith) c.requires.below _ _ c.rule_of.ensures c.rule_of-else-r-eq0.ensures)
