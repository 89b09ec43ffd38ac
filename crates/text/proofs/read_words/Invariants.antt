-- The invariant: the first i words of out, with the words of the bytes from 2 i on, are the words of all the bytes; from i on, out is as it was.
-- Assumes nothing.
use Rattle.std.proofs.Common.{◌≡◌, ◌++◌, ◌*◌, ◌/◌, length, take, drop}
use Rattle.text.specs.Text.{words}
use Rattle.text.proofs.read_words.Given as goal

abbrev pub invariant-loop-i : goal.invariant-loop-i
invariant-loop-i l = record {
  half : length l.pairs ≡ length l.bytes / 2;
  as_long : length l.out ≡ length l.fn.out;
  read : words l.bytes ≡ take l.i l.out ++ words (drop (2 * l.i) l.bytes);
  rest : drop l.i l.out ≡ drop l.i l.fn.out;
}
