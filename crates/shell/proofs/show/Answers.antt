-- What was read of a file is what is listed of it, where all could be read; and the room is as long as anything that is written, so that it is a part
-- of it.
-- Assumes nothing.
use Rattle.std.proofs.Common.{arith, take, inr}
use Rattle.listing.proofs.Lists.{output_unread}
use Rattle.shell.proofs.Streams.{shown_whole}
use Rattle.shell.proofs.show.Goals as goal

-- not all was written, and that is said
pub returns-then-not-write_out : goal.returns-then-not-write_out
returns-then-not-write_out g c =
    let size = c.write_output-size in
    let image = c.whole.ensures in
    let events = c.whole-2.ensures in
    let written = (size.ensures.enough (omega arith)).1 in
    let part = c.write_out.ensures.short c.if-not-write_out.true in
    let said = c.write_out-then-not-write_out.ensures.front in (
      take size.result size.new.out,
      rw (← image.0, ← events.0) (output_unread _ _ _ _ _ _ _ (shown_whole _ _ image.1) (shown_whole _ _ events.1) written),
      inr (part.0, said.0, part.1, part.2, said.1),
    )
