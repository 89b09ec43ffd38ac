-- Each turn enters the symbol that comes next, and none is left at the end.
use mathlib.Core.Path.{refl, ◌∙◌}
use Rattle.bits.proofs.Bits.{put_alone}
use Rattle.marks.proofs.Marks.{part_step, part_done}
use Rattle.marks.proofs.mark_symbols.Goals as goal

pub loop-a-preserved : goal.loop-a-preserved
loop-a-preserved c = let s = c.in-Some.ensures.steps in
    part_step _ _ _ _ _ _ _ _ _ _ _ c.loop-a.invariant c.requires.1 s.0 c.requires.2 s.2 refl (c.put_bit-split.ensures ∙ put_alone _) c.join.ensures

pub returns : goal.returns
returns c = part_done _ _ _ _ _ _ c.in-None.ensures.steps.0 c.loop-a.invariant
