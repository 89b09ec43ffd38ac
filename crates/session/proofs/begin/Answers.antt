-- The words as the array is made.
use mathlib.Core.Path.{refl}
use Rattle.session.specs.Session.{no_events}
use Rattle.session.proofs.begin.Goals as goal

pub returns : goal.returns
unfolding no_events
returns c = refl
