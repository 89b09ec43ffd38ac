-- The invariant: the lines of the scripts passed stand behind what was there, and the next script begins where those end.
use mathlib.Core.Path.{◌≡◌}
use Prim.Native.Nat.{◌≤◌}
use lib.ListN.{length}
use Rattle.listing.proofs.Lists.{Listed}
use Rattle.listing.proofs.lines.write_lines.Given as goal

abbrev pub invariant-loop-x : goal.invariant-loop-x
invariant-loop-x l = (l.x ≤ l.count) × (length l.out ≡ length l.initial.out) × Listed l.room l.words l.initial.out l.at l.x l.from l.end l.out
