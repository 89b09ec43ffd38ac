-- A whole image has room for three bytes of each rule that it counts.
use native.Mathlib.Omega.{arith}
use Rattle.layout.proofs.Decoded.{rule_within}
use Rattle.layout.proofs.rule_at.Goals as goal

pub overflow_mul-result : goal.overflow_mul-result
overflow_mul-result c = omega (arith, rule_within _ _ c.requires)

pub overflow_add-result : goal.overflow_add-result
overflow_add-result c = omega (arith, rule_within _ _ c.requires)

pub returns : goal.returns
returns c = omega (arith, rule_within _ _ c.requires)
