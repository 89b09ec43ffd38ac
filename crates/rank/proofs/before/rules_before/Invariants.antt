-- The invariant: the total is what the rules passed add, held at the limit.
use Rattle.std.proofs.Common.{◌≡◌, ◌≤◌}
use Rattle.bits.specs.Sum.{sum}
use Rattle.image.specs.Shown.{shown}
use Rattle.table.specs.Table.{held}
use Rattle.table.specs.Fill.{pair_adds}
use Rattle.rank.proofs.before.rules_before.Given as goal

abbrev pub invariant-loop-c : goal.invariant-loop-c
invariant-loop-c l = (l.c ≤ l.b) × (l.total ≡ held (sum l.c (pair_adds (shown l.grammar) l.table l.i l.k l.symbol)))
