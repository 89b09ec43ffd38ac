-- The invariant: the total is what the splits passed add, held at the limit.
use Rattle.std.proofs.Common.{◌≡◌, ◌<◌, ◌≤◌}
use Rattle.bits.specs.Sum.{between}
use Rattle.table.specs.Table.{held}
use Rattle.table.specs.Fill.{split_adds}
use Rattle.rank.proofs.before.splits_before.Given as goal

abbrev pub invariant-loop-j : goal.invariant-loop-j
invariant-loop-j l = (l.i < l.j) × (l.j ≤ l.to) × (l.total ≡ held (between l.i l.j (split_adds l.table l.symbols l.left l.right l.i l.k)))
