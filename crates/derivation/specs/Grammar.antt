-- Promised: a grammar: its symbols 0 to N - 1, of which 0 is the start, its event rules and its pair rules, by number, and its flag.
-- Assumes nothing.
use Rattle.std.specs.Prelude.{ℕ, ◌+◌, List, ◌++◌, map, length, get_or}

-- turns symbol into event
pub record EventRule : Type 0 where
  pub symbol : ℕ
  pub event : ℕ

-- turns symbol into left right
pub record PairRule : Type 0 where
  pub symbol : ℕ
  pub left : ℕ
  pub right : ℕ

pub record Grammar : Type 0 where
  pub symbols : ℕ
  pub leaves : List EventRule
  pub pairs : List PairRule
  -- 1 admits the empty record, a quiet shift
  pub quiet : ℕ

-- how many event rules, pair rules and rules there are
abbrev pub event_rule_count : Grammar → ℕ
event_rule_count g = length g.leaves

abbrev pub pair_rule_count : Grammar → ℕ
pair_rule_count g = length g.pairs

abbrev pub rule_total : Grammar → ℕ
rule_total g = event_rule_count g + pair_rule_count g

-- event rule r, whose number is r; pair rule b, whose number is event_rule_count g + b
abbrev pub event_rule : Grammar → ℕ → EventRule
event_rule g r = get_or g.leaves r (record { symbol = 0; event = 0 })

abbrev pub pair_rule : Grammar → ℕ → PairRule
pair_rule g b = get_or g.pairs b (record { symbol = 0; left = 0; right = 0 })

-- one thing of each rule, in the order of the rules' numbers
abbrev pub by_rule : {X : Type 0} → (EventRule → X) → (PairRule → X) → Grammar → List X
by_rule f h g = map f g.leaves ++ map h g.pairs

-- the symbol of rule r, of either kind
unfoldable pub rule_symbol : Grammar → ℕ → ℕ
rule_symbol g r = get_or (by_rule (λ q. q.symbol) (λ q. q.symbol) g) r 0

-- the same rules with another flag
unfoldable pub flagged : ℕ → Grammar → Grammar
flagged q g = record { symbols = g.symbols; leaves = g.leaves; pairs = g.pairs; quiet = q }
