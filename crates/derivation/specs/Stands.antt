-- Shown: what refusing dead symbols comes to, that every symbol is of use (`LiveReadings`).
-- Assumes nothing.
use Rattle.std.specs.Prelude.{◌≡◌, ◌⊎◌, List, ℕ, ◌-◌}
use Rattle.derivation.specs.Grammar.{Grammar, event_rule_count, event_rule, pair_rule}
use Rattle.derivation.specs.Tree.{Tree, leaf, node}
use Rattle.derivation.specs.Reading.{derived, Reads}

-- A is the symbol of a node of the tree
abbrev pub Uses : Grammar → ℕ → Tree → Type 0
Uses g A (leaf r p) = (event_rule g r).symbol ≡ A
Uses g A (node r j t u) = ((pair_rule g (r - event_rule_count g)).symbol ≡ A) ⊎ (Uses g A t ⊎ Uses g A u)

-- A stands in a reading of some record
pub record Stands (g : Grammar) (A : ℕ) : Type 0 where
  pub events : List ℕ
  pub tree : Tree
  pub reads : Reads g events (derived tree)
  pub uses : Uses g A tree
