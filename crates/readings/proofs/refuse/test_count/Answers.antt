-- The rows of an image and a record, and then that of the table.
use mathlib.Core.Path.{refl}
use native.Mathlib.Omega.{arith}
use Rattle.image.proofs.Images.{record_accepted}
use Rattle.image.proofs.Outcomes.{taken}
use Rattle.readings.proofs.refuse.test_count.Goals as goal

pub words_needed-requires : goal.words_needed-requires
words_needed-requires c =
    let few = (record_accepted _ _ _ c.in_ok-grammar.ensures.tested refl).1 in
    (rw c.symbol_count.ensures.0 (taken c.in_ok-grammar.grammar.accepted).sound.range.symbols, omega (arith, few))

pub returns-clause-countable : goal.returns-clause-countable
returns-clause-countable c = record {
  image = taken c.in_ok-grammar.grammar.accepted;
  few = (record_accepted _ _ _ c.in_ok-grammar.ensures.tested refl).1;
  fits = omega (arith, c.if-size-words_needed.false, rw c.symbol_count.ensures.0 at c.words_needed.ensures);
}
