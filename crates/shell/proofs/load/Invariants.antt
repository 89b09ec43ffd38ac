-- The invariant: the place is within the buffer, which keeps its length; each turn that goes on has read some bytes, and they stand up to the place.
-- Assumes nothing.
use Rattle.std.proofs.Common.{◌≡◌, ◌-◌, ◌≤◌, length, take}
use Rattle.std.specs.Io.KnownBytes.{Consumes}
use Rattle.shell.proofs.load.Given as goal

abbrev pub invariant-loop-at : goal.invariant-loop-at
invariant-loop-at g l = record {
  inside : l.at ≤ length l.buf;
  as_long : length l.buf ≡ length l.initial.buf;
  read : Consumes (g.R.Read.remaining l.initial.file) (g.R.Read.remaining l.file) (take l.at l.buf);
}

abbrev pub decreases-loop-at : goal.decreases-loop-at
decreases-loop-at g l = length l.initial.buf - l.at
