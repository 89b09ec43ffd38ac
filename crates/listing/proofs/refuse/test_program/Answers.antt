-- The rows of an image and of a record's bytes, and then that of the table.
use mathlib.Core.Path.{refl}
use native.Mathlib.Omega.{arith}
use lib.ListN.{length}
use Rattle.image.specs.Image.{record_byte_rows}
use Rattle.image.proofs.Refusals.{none, fail, pass, past_zero}
use Rattle.image.proofs.Named.{names_before, names_behind}
use Rattle.image.proofs.Images.{record_bytes_accepted}
use Rattle.image.proofs.Outcomes.{taken}
use Rattle.text.proofs.Pairs.{length_words}
use Rattle.listing.proofs.refuse.test_program.Goals as goal

pub words_needed-need-requires : goal.words_needed-need-requires
words_needed-need-requires c =
    let few = (record_bytes_accepted _ _ _ c.in_ok-grammar.ensures.tested refl).1 in
    (rw c.symbol_count.ensures.0 (taken c.in_ok-grammar.grammar.accepted).sound.range.symbols, omega (arith, few))

pub returns-then-need-gt-TABLE_WORDS-clause-tested : goal.returns-then-need-gt-TABLE_WORDS-clause-tested
returns-then-need-gt-TABLE_WORDS-clause-tested c =
    let n = length_words c.args.events.now in
    let need = rw (c.symbol_count.ensures.0, c.in_ok-grammar.ensures.bytes, ← n) at c.words_needed-need.ensures in
    record {
      refusal = past_zero (record_byte_rows c.args.image.now (length c.args.events.now)) _ (omega arith) _ refl c.in_ok-grammar.ensures.tested.refusal
          (fail (λ h. omega (arith, h, c.if-need-gt-TABLE_WORDS.true, need)));
      rule = names_behind (omega arith) refl;
    }

pub returns-clause-tested : goal.returns-clause-tested
returns-clause-tested c =
    let n = length_words c.args.events.now in
    let need = rw (c.symbol_count.ensures.0, c.in_ok-grammar.ensures.bytes, ← n) at c.words_needed-need.ensures in
    record {
      refusal = past_zero (record_byte_rows c.args.image.now (length c.args.events.now)) _ (omega arith) _ refl c.in_ok-grammar.ensures.tested.refusal
          (pass (omega (arith, c.if-need-gt-TABLE_WORDS.false, need)) none);
      rule = names_before (omega arith) refl;
    }
