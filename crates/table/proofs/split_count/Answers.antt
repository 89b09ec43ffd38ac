-- The words of both parts are in the table, and what they add is their held product.
use mathlib.Core.Path.{◌∙◌}
use native.Mathlib.Nat.{le_trans, le_of_lt}
use native.Mathlib.Omega.{arith}
use Rattle.table.specs.Fill.{split_adds}
use Rattle.table.proofs.Slots.{words_on}
use Rattle.table.proofs.split_count.Goals as goal

pub word_of-first-requires : goal.word_of-first-requires
word_of-first-requires c = (c.requires.0.symbols, c.requires.0.left, c.requires.1, omega (arith, c.requires.0.few, c.requires.2), le_trans (words_on _ _ _ (le_of_lt c.requires.2)) c.requires.0.fits)

pub returns : goal.returns
unfolding split_adds
returns c = c.held_product.ensures ∙ rw (c.word_of-first.ensures, c.word_of-second.ensures)
