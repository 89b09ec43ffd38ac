-- A write that takes some bytes takes those from the place on.
-- Assumes nothing.
use Rattle.std.proofs.Common.{◌≡◌, ◌-◌, arith, length, take, drop, length-drop}
use Rattle.std.proofs.lemmas.List.{take_rest}
use Rattle.shell.proofs.Streams.{write_on}
use Rattle.shell.proofs.write_out.Goals as goal

pub loop-at-preserved : goal.loop-at-preserved
loop-at-preserved g c =
    let bs = c.args.bytes.now in
    let at = c.loop-at.at in
    let part : take (length bs - at) (drop at bs) ≡ drop at bs = take_rest bs at in
    record {
      inside = omega (arith, length-drop at bs, rw part at c.in-Ok.ensures.bound);
      written = write_on _ _ _ _ _ _ c.loop-at.invariant.written (rw part at c.in-Ok.ensures.bytes);
    }
