-- A read that gives some bytes puts them behind those that stand already.
-- Assumes nothing.
use Rattle.std.proofs.Common.{rules, arith}
use Rattle.std.proofs.lemmas.Slice.{overwrites}
use Rattle.shell.proofs.Streams.{read_more}
use Rattle.shell.proofs.load.Goals as goal

pub loop-at-preserved : goal.loop-at-preserved
loop-at-preserved g c =
    let l = c.loop-at in
    let read = c.read-got.ensures in
    record {
      inside = search (rules, overwrites);
      as_long = search (rules, overwrites);
      read = read_more _ _ _ _ _ _ _ _ _ c.read-got.result c.after_read.result (omega arith) (search (rules, overwrites)) l.invariant.read read.bound read.bytes c.after_read.ensures.value c.in_ok-next.was;
    }
