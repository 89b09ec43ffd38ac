-- The invariant: the place is what the splits passed add, and the rest.
use Rattle.std.proofs.Common.{◌≡◌, ◌+◌, ◌<◌, ◌≤◌}
use Rattle.bits.specs.Sum.{between}
use Rattle.table.specs.Fill.{split_adds}
use Rattle.unrank.proofs.choose.pick_split.Given as goal

abbrev pub invariant-loop-j : goal.invariant-loop-j
invariant-loop-j l = (l.i < l.j) × (l.j ≤ l.k) × (l.rank ≡ between l.i l.j (split_adds l.table l.symbols l.left l.right l.i l.k) + l.rest)
