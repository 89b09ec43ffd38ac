-- The measure is twice the stretch, and one more where the root is yet to be read.
use Rattle.std.proofs.Common.{◌+◌, ◌-◌, ◌*◌}
use Rattle.pages.proofs.step.+step_parts_step_script.Given as goal

abbrev pub decreases-step_parts : goal.decreases-step_parts
decreases-step_parts l = 2 * (l.k - l.i)

abbrev pub decreases-step_script : goal.decreases-step_script
decreases-step_script l = 2 * (l.k - l.i) + 1
