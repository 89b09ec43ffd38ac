-- The product is the definition's, and two factors of at most 65536 leave it far below the machine's limit.
use mathlib.Core.Path.{refl}
use Rattle.derivation.specs.Chart.{cells}
use Rattle.derivation.proofs.cell_count.Goals as goal

pub returns : goal.returns
unfolding cells
returns c = refl
