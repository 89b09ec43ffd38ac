-- No split is in both sets of splits with any symbol.
use native.Mathlib.Omega.{arith}
use Rattle.std.proofs.lemmas.Bool.{eqb-true}
use Rattle.marks.proofs.Marks.{apart_is}
use Rattle.marks.proofs.apart.Goals as goal

pub returns-then-marks-some-eq0 : goal.returns-then-marks-some-eq0
returns-then-marks-some-eq0 c e = apart_is _ _ _ c.requires.told.0 c.requires.told.1 c.if-marks-some-eq0.true (omega (arith, eqb-true _ _ e))
