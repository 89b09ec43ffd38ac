-- Every script of a record has one length; that of an empty record has no words, and the flag says whether it is a reading's.
use mathlib.Core.Path.{sym, ◌∙◌}
use Prim.Native.Nat.{◌<◌}
use native.Mathlib.Omega.{arith}
use lib.ListN.{length}
use Rattle.bits.proofs.Truths.{decides_as}
use Rattle.derivation.proofs.Readings.{reading_length, reading_of, of_reading, reading_quiet, quiet_reading}
use Rattle.follow.proofs.is_reading.Goals as goal

pub returns-then-script-words : goal.returns-then-script-words
returns-then-script-words c = λ s. c.if-script-words.true (reading_length _ _ _ s ∙ sym c.script_words-words.ensures)

pub returns-then-n-eq0 : goal.returns-then-n-eq0
returns-then-n-eq0 c = let l = c.if-script-words.false ∙ c.script_words-words.ensures in
    decides_as c.is_quiet.result (reading_quiet _ _ c.if-n-eq0.true _ (omega arith)) (quiet_reading _ _ c.if-n-eq0.true _) c.is_quiet.ensures

pub returns : goal.returns
returns c = let some : 0 < length c.args.events.now = omega (arith, c.if-n-eq0.false) in
    decides_as c.follows.result (reading_of _ _ _) (of_reading _ _ some _) c.follows.ensures
