-- The invariant: the place is what the rules passed add, and the rest.
use Rattle.std.proofs.Common.{◌≡◌, ◌+◌, ◌≤◌}
use Rattle.bits.specs.Sum.{sum}
use Rattle.image.specs.Shown.{shown}
use Rattle.table.specs.Fill.{pair_adds}
use Rattle.unrank.proofs.choose.choose_pair.Given as goal

abbrev pub invariant-loop-b : goal.invariant-loop-b
invariant-loop-b l = (l.b ≤ l.pairs) × (l.rank ≡ sum l.b (pair_adds (shown l.counts.grammar) l.counts.table.now l.i l.k l.symbol) + l.rest)
