-- The rows of an image and a record's bytes, and then that of the table.
use mathlib.Core.Path.{refl}
use native.Mathlib.Omega.{arith}
use Rattle.image.proofs.Images.{record_bytes_accepted}
use Rattle.image.proofs.Outcomes.{taken}
use Rattle.boundary_bytes.proofs.refuse.test_table.Goals as goal

pub words_needed-need-requires : goal.words_needed-need-requires
words_needed-need-requires c =
    let few = (record_bytes_accepted _ _ _ c.in_ok-grammar.ensures.tested refl).1 in
    (rw c.symbol_count.ensures.0 (taken c.in_ok-grammar.grammar.accepted).sound.range.symbols, omega (arith, few))
