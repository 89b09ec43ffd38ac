-- Inside: the numbers of a rule as the code has it, and the search for the first rule at fault.
-- Assumes nothing.
use Rattle.std.specs.Prelude.{ℕ, List, [], ◌∷◌, Option, Some, None}
use Rattle.bits.specs.Truth.{Every}
use Rattle.rules.specs.Fault.{FirstFault}
use Rattle.rules.specs.declared.Rule.{Rule}
use Rattle.rules.specs.declared.Rule.TheVariants.{Leaf, Pair}

-- in the order in which rules are compared: by symbol, and then by what follows
abbrev pub numbers : Rule → List ℕ
numbers (Leaf s e) = s ∷ e ∷ []
numbers (Pair s a b) = s ∷ a ∷ b ∷ []

-- what a search for it answers: the first fault, or nothing where there is none
abbrev pub SearchIs : (m : ℕ) (P : ℕ → Type 0) → Option ℕ → Type 0
SearchIs m P None = Every m P
SearchIs m P (Some r) = FirstFault m P r
