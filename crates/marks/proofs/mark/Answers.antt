-- The symbols are entered, and the last words of the block tell of them.
use mathlib.Core.Path.{refl, ◌∙◌}
use Rattle.bits.proofs.Bits.{put_alone}
use Rattle.marks.proofs.Marks.{marked, none_marked}
use Rattle.marks.proofs.mark.Goals as goal

pub returns-then-word-eq0 : goal.returns-then-word-eq0
returns-then-word-eq0 c = none_marked _ _ _ _ c.if-word-eq0.true

pub returns : goal.returns
returns c = marked _ _ _ _ _ _ _ _ _ c.requires.2 c.requires.1 c.mark_symbols.ensures (c.put_bit-split.ensures ∙ put_alone _) refl
    c.join.ensures c.join-2.ensures
