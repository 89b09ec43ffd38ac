-- The rules begin behind the header, and in version 2 behind the flag.
use native.Mathlib.Omega.{arith}
use mathlib.Core.Path.{sym, ◌∙◌}
use Rattle.layout.proofs.Decoded.{rules_behind, rules_at_once}
use Rattle.layout.proofs.rules_from.Goals as goal

pub returns-then-version-eq-FLAG_VERSION : goal.returns-then-version-eq-FLAG_VERSION
returns-then-version-eq-FLAG_VERSION c = (sym (rules_behind _ (sym c.version.ensures ∙ c.if-version-eq-FLAG_VERSION.true)), omega arith)

pub returns-else-version-eq-FLAG_VERSION : goal.returns-else-version-eq-FLAG_VERSION
returns-else-version-eq-FLAG_VERSION c = (sym (rules_at_once _ (λ e. c.if-version-eq-FLAG_VERSION.false (c.version.ensures ∙ e))), omega arith)
