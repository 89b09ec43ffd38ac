-- The part that src was copied over stands from the place at on, and is as long as src.
-- Assumes nothing.
use Rattle.std.proofs.Common.{◌+◌, ◌-◌, arith, length}
use Rattle.std.proofs.lemmas.Slice.{take-put_mid, drop-put_mid}
use Rattle.text.proofs.put_bytes.Goals as goal

pub returns-clause-put : goal.returns-clause-put
returns-clause-put c =
    let a = c.args in
    let end = a.at + length a.src.now in
    let new = c.copy_from_slice.new.self in
    record {
      behind = omega arith;
      written = cc (c.copy_from_slice.ensures.after, take-put_mid a.at (end - a.at) a.out.now new end (omega arith) (omega arith));
      rest = drop-put_mid a.at (end - a.at) a.out.now new end (omega arith) (omega arith) (omega arith);
    }
