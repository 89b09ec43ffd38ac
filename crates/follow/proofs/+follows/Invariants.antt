-- Each of the two calls is over a shorter stretch.
use Prim.Native.Nat.{◌-◌}
use Rattle.follow.proofs.+follows.Given as goal

abbrev pub decreases-follows : goal.decreases-follows
decreases-follows l = l.k - l.i
