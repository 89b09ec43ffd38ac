-- No split is passed at first; each turn adds the share of one more.
use Rattle.std.proofs.Common.{arith}
use Rattle.rank.proofs.Behind.{splits_start, splits_on}
use Rattle.rank.proofs.before.splits_before.Goals as goal

pub loop-j-init : goal.loop-j-init
loop-j-init c = (omega arith, omega (arith, c.requires.1), splits_start _ _)

pub loop-j-preserved : goal.loop-j-preserved
loop-j-preserved c =
    let v = c.loop-j.invariant in
    (omega (arith, v.0), omega (arith, c.loop-j-test.true), splits_on _ _ _ _ _ _ v.0 v.2 c.split_count-more.ensures c.held_sum-total.ensures)
