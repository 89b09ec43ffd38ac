-- The invariant: the first i words stand in the bytes, and the bytes behind them are as they were.
use Rattle.std.specs.Prelude.{map}
use Rattle.packed.proofs.Puts.{Standing}
use Rattle.packed.proofs.write.Given as goal

abbrev pub invariant-loop-i : goal.invariant-loop-i
invariant-loop-i g l = Standing g.row.N l.i (map g.W.Word.number l.words) l.initial.out l.out
