-- Each of the two calls is over a shorter stretch.
use Rattle.std.proofs.Common.{◌-◌}
use Rattle.rank.proofs.+rank_script.Given as goal

abbrev pub decreases-rank_script : goal.decreases-rank_script
decreases-rank_script l = l.k - l.i
