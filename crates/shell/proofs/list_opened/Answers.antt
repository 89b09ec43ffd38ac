-- What was read of a file is what is listed of it.
-- Assumes nothing.
use Rattle.std.proofs.Common.{rules, take, is_ok}
use Rattle.shell.specs.Streams.{read_len}
use Rattle.shell.proofs.list_opened.Goals as goal

pub returns : goal.returns
returns g c =
    let a = c.load_opened-a in
    let b = c.load_opened-b in
    let shown = c.show.ensures in (
      a.new.file,
      b.new.file,
      is_ok a.result,
      is_ok b.result,
      take (read_len a.result) a.new.buf,
      take (read_len b.result) b.new.buf,
      shown.0,
      search rules,
      search rules,
      shown.1,
      shown.2,
    )
