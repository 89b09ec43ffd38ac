-- Promised: live and dead symbols: a live one derives some list of one or more events by the rules, and can be reached from symbol 0 through them. The flag is no
-- rule, and has no say in it.
-- Assumes nothing.
use Rattle.std.specs.Prelude.{◌⊎◌, List, ℕ, ◌≤◌, ◌<◌, length}
use Rattle.derivation.specs.Grammar.{Grammar, pair_rule_count, pair_rule}
use Rattle.derivation.specs.Tree.{Derivable}

-- A derives some list of one or more events: a record with A derivable over all of it
pub record DerivesSome (g : Grammar) (A : ℕ) : Type 0 where
  pub events : List ℕ
  pub some : 1 ≤ length events
  pub derivable : Derivable g events A 0 (length events)

-- A can be reached: symbol 0 always, and both parts of each pair rule whose symbol can be reached
pub data Reached (g : Grammar) : ℕ → Type 0 where
  start : Reached g 0
  left : (b : ℕ) → b < pair_rule_count g → Reached g (pair_rule g b).symbol → Reached g (pair_rule g b).left
  right : (b : ℕ) → b < pair_rule_count g → Reached g (pair_rule g b).symbol → Reached g (pair_rule g b).right

pub record Live (g : Grammar) (A : ℕ) : Type 0 where
  pub derives : DerivesSome g A
  pub reached : Reached g A

-- A derives no such list, or cannot be reached
abbrev pub Dead : Grammar → ℕ → Type 0
Dead g A = (DerivesSome g A → ⊥) ⊎ (Reached g A → ⊥)
