-- A refusal of the record is the answer; past it the script is followed.
use mathlib.Core.Path.{refl}
use Rattle.image.proofs.Outcomes.{passed_on, never_zero}
use Rattle.readings.proofs.check.Goals as goal

pub returns-in_err-grammar : goal.returns-in_err-grammar
returns-in_err-grammar c =
    let p = c.in_err-grammar.ensures.tested in
    rw (passed_on _ _ c.from_residual.ensures.1)
    (record { refusal = p.refusal; rule = p.rule; refused = λ _. refl; answered = λ z. absurd (never_zero _ z) })

pub returns : goal.returns
returns c =
    let p = c.in_ok-grammar.ensures.tested in
    record { refusal = p.refusal; rule = p.rule; refused = λ z. absurd (z refl); answered = λ _. rw c.in_ok-grammar.ensures.bytes at c.is_reading.ensures }
