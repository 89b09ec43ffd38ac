-- Shown: "exactly when", and what every demand of a table together says.
-- Assumes nothing.
use Rattle.std.specs.Prelude.{ℕ, List}
use Rattle.bits.specs.Truth.{All}
use Rattle.image.specs.Refusal.{Row, ◌unless◌}

-- ---- P exactly when Q
pub record Exactly (P Q : Type 0) : Type 0 where
  pub only : P → Q
  pub whenever : Q → P

-- the two things that a row has
abbrev pub number_of : Row → ℕ
number_of (k unless P) = k

abbrev pub demand : Row → Type 0
demand (k unless P) = P

-- every demand of the table holds
abbrev pub AllHold : List Row → Type 0
AllHold = All demand
