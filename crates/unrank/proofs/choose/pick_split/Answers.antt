-- No split is passed at first; a split whose share is no more than the rest takes its share off it.
use Rattle.std.proofs.Common.{arith}
use Rattle.unrank.proofs.Plans.{split_start, split_past}
use Rattle.unrank.proofs.choose.pick_split.Goals as goal

pub loop-j-init : goal.loop-j-init
loop-j-init c = (omega arith, omega (arith, c.requires.some), split_start _ _ _)

pub loop-j-preserved : goal.loop-j-preserved
loop-j-preserved c =
    let v = c.loop-j.invariant in
    (omega (arith, v.0), omega (arith, c.loop-j-test.true), split_past _ _ _ _ _ _ v.0 v.2 c.split_count-share.ensures c.if-rest-share.false)
