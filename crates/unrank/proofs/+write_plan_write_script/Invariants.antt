-- A number is written by its plan: the measure is twice the stretch, and one more where the plan is yet to be made.
use Rattle.std.proofs.Common.{◌+◌, ◌-◌, ◌*◌}
use Rattle.unrank.proofs.+write_plan_write_script.Given as goal

abbrev pub decreases-write_plan : goal.decreases-write_plan
decreases-write_plan l = 2 * (l.k - l.i)

abbrev pub decreases-write_script : goal.decreases-write_script
decreases-write_script l = 2 * (l.k - l.i) + 1
