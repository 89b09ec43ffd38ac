-- The invariant: the rules below `low` are passed.
use Rattle.std.proofs.Common.{◌-◌, ◌≤◌}
use Rattle.image.specs.Shown.{shown}
use Rattle.unrank.specs.Choice.{Passed}
use Rattle.unrank.proofs.begin.first_rule.Given as goal

abbrev pub invariant-loop-low : goal.invariant-loop-low
invariant-loop-low l = (l.low ≤ l.high) × (l.high ≤ l.to) × Passed (shown l.grammar) l.symbol l.from l.to l.low

abbrev pub decreases-loop-low : goal.decreases-loop-low
decreases-loop-low l = l.high - l.low
