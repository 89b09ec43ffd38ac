-- Promised: refusals: a table of demands in order, each with its number. What is given is the number of the first demand that fails, and 0 where none does.
-- Assumes nothing.
use Rattle.std.specs.Prelude.{ℕ, ◌≡◌, ◌⊎◌, List, [], ◌∷◌}

infix 3 ◌unless◌
-- a row of the table: the number, and what has to hold for it not to be given
pub data Row : Type 1 where
  ◌unless◌ : ℕ → Type 0 → Row

-- n is the number of the first row whose demand fails, or 0 where none fails
abbrev pub FirstOf : List Row → ℕ → Type 0
FirstOf [] n = n ≡ 0
FirstOf ((k unless P) ∷ rows) n = ((P → ⊥) × (n ≡ k)) ⊎ (P × FirstOf rows n)

-- the same as a record, whose parameters antt infers
pub record First (rows : List Row) (n : ℕ) : Type 0 where
  pub is : FirstOf rows n
