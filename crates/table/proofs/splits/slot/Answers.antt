-- The cells of a record and 64 symbols have a product that fits.
use Prim.Native.Nat.{ℕ, ◌*◌, ◌≤◌, ◌<◌}
use mathlib.Core.Path.{◌≡◌}
use native.Mathlib.Nat.{mul-le-mul, lt_of_le_of_lt, le_refl}
use native.Mathlib.Omega.{arith}
use lib.Dec.{lit<}
use Rattle.derivation.specs.Chart.{cell_at}
use Rattle.derivation.proofs.Columns.{cell_within, cells_small}
use Rattle.table.proofs.splits.slot.Goals as goal

small : (N i k x : ℕ) → N ≤ 64 → i < k → k < 65536 → x ≡ cell_at i k → x * N ≤ 4294967296 * 64
small N i k x few lt low is = mul-le-mul {n₂ = 4294967296} {m₂ = 64} (omega (arith, cell_within _ _ _ lt (le_refl _), cells_small _ low)) few

pub overflow_mul-result : goal.overflow_mul-result
overflow_mul-result c = record { fits = lt_of_le_of_lt (small _ _ _ _ c.requires.0 c.requires.2 c.requires.3 c.cell_at.ensures) (lit< tt) }

pub overflow_add-result : goal.overflow_add-result
overflow_add-result c = let s = small _ _ _ _ c.requires.0 c.requires.2 c.requires.3 c.cell_at.ensures in omega arith
