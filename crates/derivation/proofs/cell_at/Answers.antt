-- The product is the definition's, and two factors below 65536 leave it far below the machine's limit.
use mathlib.Core.Path.{refl}
use Rattle.derivation.specs.Chart.{cells_before}
use Rattle.derivation.proofs.cell_at.Goals as goal

pub returns : goal.returns
unfolding cells_before
returns c = refl
