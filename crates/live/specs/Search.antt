-- Inside: what is sought, and what the parts of a search promise to each other. A set of symbols is a word.
-- Assumes nothing.
use Rattle.std.specs.Prelude.{ℕ, ◌-◌, ◌≤◌, ◌≡◌}
use Rattle.bits.specs.Truth.{Every}
use Rattle.bits.specs.Word.{Has, Within}
use Rattle.derivation.specs.Grammar.{Grammar, event_rule_count, event_rule, pair_rule}
use Rattle.derivation.specs.Live.{DerivesSome, Reached}
use Rattle.live.specs.declared.Sought.{Sought}
use Rattle.live.specs.declared.Sought.TheVariants.{Deriving, Reachable}

-- the two halves of living, by the code's names for them
abbrev pub Meets : Sought → Grammar → ℕ → Type 0
Meets Deriving g A = DerivesSome g A
Meets Reachable g A = Reached g A

-- those with which a search starts are in s: the symbols of all event rules, or symbol 0
abbrev pub Covers : Sought → Grammar → ℕ → Type 0
Covers Deriving g s = Every (event_rule_count g) (λ r. Has s (event_rule g r).symbol)
Covers Reachable g s = Has s 0

-- the rule with number r, where it is a pair rule, does not leave s: from both its parts to its symbol, or from its symbol to its parts
abbrev pub Stays : Sought → Grammar → ℕ → ℕ → Type 0
Stays Deriving g s r =
    event_rule_count g ≤ r → Has s (pair_rule g (r - event_rule_count g)).left → Has s (pair_rule g (r - event_rule_count g)).right
    → Has s (pair_rule g (r - event_rule_count g)).symbol
Stays Reachable g s r =
    event_rule_count g ≤ r → Has s (pair_rule g (r - event_rule_count g)).symbol
    → Has s (pair_rule g (r - event_rule_count g)).left × Has s (pair_rule g (r - event_rule_count g)).right

pub record Starts (sought : Sought) (g : Grammar) (s : ℕ) : Type 0 where
  pub covers : Covers sought g s
  pub only : Within s (Meets sought g)

-- t is s with more that is sought, and where it is s, Q holds
pub record Grown (sought : Sought) (g : Grammar) (s : ℕ) (Q : Type 0) (t : ℕ) : Type 0 where
  pub larger : s ≤ t
  pub keeps : Within s (Has t)
  pub only : Within s (Meets sought g) → Within t (Meets sought g)
  pub ended : t ≡ s → Q

-- s is the set of all that P holds of
pub record Exactly (P : ℕ → Type 0) (s : ℕ) : Type 0 where
  pub only : Within s P
  pub all : (a : ℕ) → P a → Has s a
