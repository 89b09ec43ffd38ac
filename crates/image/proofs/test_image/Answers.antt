-- A refusal by the bytes or by the rules is one of the image; past both every demand holds.
use mathlib.Core.Path.{refl}
use Rattle.layout.specs.Layout.{decode}
use Rattle.image.specs.Image.{byte_rows, rule_rows, image_rows}
use Rattle.image.proofs.Refusals.{first_hit}
use Rattle.image.proofs.Images.{whole, ranged, by_rules, accepted, bytes_name}
use Rattle.image.proofs.Outcomes.{passed_on, never_zero, refuses, accepts}
use Rattle.image.proofs.test_image.Goals as goal

pub test_rules-requires : goal.test_rules-requires
test_rules-requires c =
    let b = c.args.image.now in
    (whole b 0 refl c.in_ok-test_bytes.ensures.0, ranged b 0 refl c.in_ok-test_bytes.ensures.0)

pub returns-in_err-test_bytes-clause-tested : goal.returns-in_err-test_bytes-clause-tested
returns-in_err-test_bytes-clause-tested c =
    let b = c.args.image.now in
    let e = c.in_err-test_bytes.field-0.0 in
    rw (passed_on _ _ c.from_residual.ensures.1)
    (refuses (image_rows b) (decode b) e (first_hit (byte_rows b) (rule_rows (decode b)) (never_zero e) c.in_err-test_bytes.ensures.0) (bytes_name b _ _ c.in_err-test_bytes.ensures))

pub returns-in_err-test_rules-clause-tested : goal.returns-in_err-test_rules-clause-tested
returns-in_err-test_rules-clause-tested c =
    let b = c.args.image.now in
    let e = c.in_err-test_rules.field-0.0 in
    rw (passed_on _ _ c.from_residual-in_err-test_rules.ensures.1)
    (refuses (image_rows b) (decode b) e (by_rules b 0 refl c.in_ok-test_bytes.ensures.0 c.in_err-test_rules.ensures.refusal) c.in_err-test_rules.ensures.rule)

pub returns-clause-tested : goal.returns-clause-tested
returns-clause-tested c =
    let b = c.args.image.now in
    accepts (image_rows b) (decode b) (by_rules b 0 refl c.in_ok-test_bytes.ensures.0 c.in_ok-test_rules.ensures.refusal)

pub invariant_of-result : goal.invariant_of-result
invariant_of-result c =
    let b = c.args.image.now in
    record { accepted = ∣ accepted b (by_rules b 0 refl c.in_ok-test_bytes.ensures.0 c.in_ok-test_rules.ensures.refusal) ∣₁ }
