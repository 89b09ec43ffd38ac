-- The invariant: the place is how many of the rules passed fit, and the rest.
use Rattle.std.proofs.Common.{◌≡◌, ◌+◌, ◌≤◌}
use Rattle.bits.specs.Sum.{sum}
use Rattle.image.specs.Shown.{shown}
use Rattle.table.specs.Fill.{leaf_adds}
use Rattle.unrank.proofs.choose.choose_leaf.Given as goal

abbrev pub invariant-loop-r : goal.invariant-loop-r
invariant-loop-r l = (l.r ≤ l.leaves) × (l.rank ≡ sum l.r (leaf_adds (shown l.grammar) l.event l.symbol) + l.rest)
