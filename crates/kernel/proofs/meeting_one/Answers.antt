-- The first symbol of a word that has one is that one.
use mathlib.Core.Path.{refl, ◌∙◌}
use lib.Pow.{pow_pos}
use Rattle.kernel.proofs.Along.{along_first}
use Rattle.kernel.proofs.meeting_one.Goals as goal

pub first_bit-requires : goal.first_bit-requires
first_bit-requires c = let o = c.requires.a_bound.1 in rw o.2 (pow_pos o.0)

pub returns : goal.returns
returns c = let o = c.requires.a_bound.1 in (
  c.meeting.ensures.0 ∙ along_first c.args.marks.now c.args.r c.args.a c.args.column.now o.0 _ o.1 (rw o.2 at c.first_bit.ensures.1) ∙ rw o.2 refl,
  c.meeting.ensures.1,
)
