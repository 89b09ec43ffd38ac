-- Word i is read from pair i, and stands behind the i words read so far.
use mathlib.Core.Path.{refl, sym}
use native.Mathlib.Numerals.{add-one}
use native.Mathlib.Omega.{arith}
use lib.ListN.{length-set}
use lib.Seq.{take-suc-set}
use Rattle.packed.proofs.Words.{first_none, first_more, word_pair}
use Rattle.packed.proofs.read_2.Goals as goal

pub loop-i-init : goal.loop-i-init
loop-i-init c = (refl, sym (first_none 2 _))

pub loop-i-preserved : goal.loop-i-preserved
loop-i-preserved c = (
  rw length-set (omega arith),
  cc (take-suc-set c.loop-i.out c.loop-i.i c.from_le_bytes.result (omega arith), add-one c.loop-i.i, first_more 2 c.loop-i.i c.args.bytes.now, c.from_le_bytes.ensures, word_pair c.args.bytes.now c.loop-i.i _ c.as_chunks.result.0.now (omega arith) (omega arith) c.as_chunks.ensures.front),
)
