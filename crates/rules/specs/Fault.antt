-- Promised: the first rule that is at fault.
-- Assumes nothing.
use Rattle.std.specs.Prelude.{ℕ, ◌<◌}
use Rattle.bits.specs.Truth.{Every}

-- r is the first number below m of which P fails
pub record FirstFault (m : ℕ) (P : ℕ → Type 0) (r : ℕ) : Type 0 where
  pub within : r < m
  pub before : Every r P
  pub fault : P r → ⊥
