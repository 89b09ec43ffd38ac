-- In version 2 it is the byte behind the header, or 0 where that is missing; in any other version the decoded flag is 0.
use native.Mathlib.Omega.{arith}
use mathlib.Core.Path.{sym, ◌∙◌}
use Rattle.layout.proofs.Decoded.{quiet_byte, quiet_missing, quiet_none}
use Rattle.layout.proofs.quiet_flag.Goals as goal
use Rattle.layout.proofs.quiet_flag.Goals.{else-version-eq-FLAG_VERSION-via-then-version-eq-FLAG_VERSION+else-image-gt-HEADER_BYTES, else-version-eq-FLAG_VERSION-via-else-version-eq-FLAG_VERSION}

pub returns-then-image-gt-HEADER_BYTES : goal.returns-then-image-gt-HEADER_BYTES
returns-then-image-gt-HEADER_BYTES c =
    (c.byte_at.ensures.0 ∙ sym (quiet_byte _ (sym c.version.ensures ∙ c.if-version-eq-FLAG_VERSION.true)), c.byte_at.ensures.1)

pub returns-else-version-eq-FLAG_VERSION : goal.returns-else-version-eq-FLAG_VERSION
returns-else-version-eq-FLAG_VERSION c = (
  sym (elim c.else-version-eq-FLAG_VERSION.branch [
    | else-version-eq-FLAG_VERSION-via-then-version-eq-FLAG_VERSION+else-image-gt-HEADER_BYTES w ↦
        quiet_missing c.args.image.now (sym c.version.ensures ∙ w.if-version-eq-FLAG_VERSION.true) (omega arith)
    | else-version-eq-FLAG_VERSION-via-else-version-eq-FLAG_VERSION w ↦
        quiet_none c.args.image.now (λ e. w.if-version-eq-FLAG_VERSION.false (c.version.ensures ∙ e))
  ]),
  omega arith,
)
