-- One more line is written behind those of the scripts passed, of as many words as the script has.
use mathlib.Core.Path.{refl}
use native.Mathlib.Omega.{arith}
use lib.ListN.{length-take}
use Rattle.listing.proofs.Lists.{listed_start, listed_step}
use Rattle.listing.proofs.lines.write_lines.Goals as goal

pub loop-x-init : goal.loop-x-init
loop-x-init c = (omega arith, refl, listed_start _ _ _ _)

pub loop-x-preserved : goal.loop-x-preserved
loop-x-preserved c = (omega (arith, c.loop-x-test.true), omega (arith, c.put_line-end.auto, c.loop-x.invariant.1), listed_step _ _ _ _ _ _ _ _ c.loop-x.invariant.2 _ _ (omega (arith, rw length-take at c.put_line-end.ensures.upper_bound, c.requires.words_bound.0)) c.put_line-end.ensures.put)
