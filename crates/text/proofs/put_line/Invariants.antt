-- The invariant: what is written, with the rest of the line from the next word on, is what was written before the loop, with the whole of that rest;
-- behind it the room is as it was.
-- Assumes nothing.
use Rattle.std.proofs.Common.{◌≡◌, ◌++◌, ◌+◌, ◌*◌, ◌≤◌, take, drop}
use Rattle.text.specs.Text.{more}
use Rattle.text.proofs.put_line.Given as goal

abbrev pub invariant-loop-word : goal.invariant-loop-word
invariant-loop-word l = record {
  near : l.end ≤ l.at + 6 * l.word-index + 5;
  written : take l.end l.out ++ more (drop l.word-index l.others) ≡ take l.initial.end l.initial.out ++ more l.others;
  behind : l.initial.end ≤ l.end;
  rest : drop l.end l.out ≡ drop l.end l.initial.out;
}
