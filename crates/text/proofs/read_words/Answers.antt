-- The next pair of bytes is the next word, and stands behind those that were read.
-- Assumes nothing.
use Rattle.std.proofs.Common.{◌≡◌, ◌+◌, ◌*◌, ◌/◌, arith, length, take, drop, length-set, append-nil, take-append-drop}
use native.Mathlib.Numerals.{add-one}
use lib.Seq.{append_snoc, take-suc-set, drop-set-lt, drop-drop}
use Rattle.text.specs.Text.{words}
use Rattle.text.proofs.Pairs.{words_pair, words_end}
use Rattle.text.proofs.read_words.Goals as goal

pub loop-i-preserved : goal.loop-i-preserved
loop-i-preserved c =
    let l = c.loop-i in
    let a = c.args in
    let bs = a.bytes.now in
    let v = c.from_le_bytes.result in
    record {
      half = l.invariant.half;
      as_long = simp length-set (omega arith);
      read = cc (words_pair bs _ l.i v c.as_chunks.ensures.front (omega arith) c.from_le_bytes.ensures, take-suc-set l.out l.i v (omega arith), add-one l.i, append_snoc (take l.i l.out) v (words (drop (2 * (l.i + 1)) bs)));
      rest = cc (drop-set-lt (l.i + 1) l.out l.i v (omega arith), drop-drop 1 l.i l.out, drop-drop 1 l.i a.out.now);
    }

pub returns-clause-out_after : goal.returns-clause-out_after
returns-clause-out_after c =
    let l = c.loop-i in
    let bs = c.args.bytes.now in
    let e : l.i ≡ length bs / 2 = omega arith in
    cc (words_end bs l.i (omega arith), append-nil (take l.i l.out), take-append-drop l.i l.out)
