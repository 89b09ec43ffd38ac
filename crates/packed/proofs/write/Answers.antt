-- The bytes of the next word are put behind the words that stand, so one word more stands; at the end all do.
use mathlib.Core.Path.{sym, ap, ◌∙◌}
use Prim.Native.Nat.{◌*◌, ◌+◌, ◌-◌}
use native.Mathlib.Omega.{arith}
use lib.ListN.{length}
use Rattle.std.proofs.Common.{rules}
use Rattle.std.proofs.lemmas.List.{length-map, get_or-map}
use Rattle.packed.specs.Packed.{value}
use Rattle.packed.proofs.Puts.{put_bytes, ends, standing_more, put_all}
use Rattle.packed.proofs.write.Goals as goal

pub loop-i-preserved : goal.loop-i-preserved
loop-i-preserved g c =
    let word = c.index-words-i.result in
    standing_more g.row.N c.loop-i.i (g.W.Word.number word) _ _ c.loop-i.out _ (ap g.W.Word.number c.index-words-i.is ∙ sym (get_or-map g.W.Word.number c.args.words.now c.loop-i.i word 0 (omega arith))) c.loop-i.invariant
    (put_bytes c.loop-i.out _ (g.row.N * c.loop-i.i) (g.row.N * c.loop-i.i + g.row.N - g.row.N * c.loop-i.i) g.row.N (g.W.Word.number word) (omega arith)
    (omega (arith, ends g.row.N c.loop-i.i (length c.args.words.now) (omega arith))) (search rules) (ap value c.copy_from_slice.ensures.after ∙ c.to_bytes.ensures))

pub returns : goal.returns
returns g c = put_all g.row.N _ _ _ _ _ (omega arith) g.met.W.Word.some c.requires (rw length-map (omega arith)) c.loop-i.invariant
