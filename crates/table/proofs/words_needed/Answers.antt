-- The cells of a record and 64 symbols have a product that fits.
use native.Mathlib.Omega.{arith}
use Rattle.table.proofs.Slots.{words_small}
use Rattle.table.proofs.words_needed.Goals as goal

pub overflow_mul-result : goal.overflow_mul-result
overflow_mul-result c = rw c.cell_count.ensures (omega (arith, words_small _ _ c.requires.0 c.requires.1))
