-- Promised: what is asked of a grammar: its counts and its flag in range, every symbol of its rules below N, and each rule above its predecessor of the same
-- kind. A grammar of which all this holds is sound.
-- Assumes nothing.
use Rattle.std.specs.Prelude.{ℕ, ◌-◌, ◌≤◌, ◌<◌, max, ◌≢◌, List, [], ◌∷◌, get_or}
use Rattle.bits.specs.Truth.{Every}
use Rattle.derivation.specs.Grammar.{Grammar, event_rule_count, pair_rule_count, rule_total, by_rule}
use Rattle.derivation.specs.Order.{Before}

-- ---- counts and flag
abbrev pub most_symbols : ℕ
most_symbols = 64

abbrev pub most_leaves : ℕ
most_leaves = 512

abbrev pub most_pairs : ℕ
most_pairs = 256

-- N is 1 to 64, L is 0 to 512, B is 0 to 256, the flag is 0 or 1
pub record InRange (N L B flag : ℕ) : Type 0 where
  pub some : 1 ≤ N
  pub symbols : N ≤ most_symbols
  pub leaves : L ≤ most_leaves
  pub pairs : B ≤ most_pairs
  pub quiet : flag ≤ 1

-- ---- one rule, by its number
-- the highest symbol of rule r: an event rule has one symbol, a pair rule three
abbrev pub highest : Grammar → ℕ → ℕ
highest g r = get_or (by_rule (λ q. q.symbol) (λ q. max q.symbol (max q.left q.right)) g) r 0

-- no symbol of rule r is N or more
abbrev pub SymbolsFit : Grammar → ℕ → Type 0
SymbolsFit g r = highest g r < g.symbols

-- the numbers of rule r in the order in which rules are compared: by symbol, and then by what follows
abbrev pub as_numbers : Grammar → ℕ → List ℕ
as_numbers g r = get_or (by_rule (λ q. q.symbol ∷ q.event ∷ []) (λ q. q.symbol ∷ q.left ∷ q.right ∷ []) g) r []

-- rule r is above its predecessor of the same kind; the first of each kind has none
abbrev pub Rises : Grammar → ℕ → Type 0
Rises g r = 0 < r → r ≢ event_rule_count g → Before (as_numbers g (r - 1)) (as_numbers g r)

-- ---- all of it
pub record Sound (g : Grammar) : Type 0 where
  pub range : InRange g.symbols (event_rule_count g) (pair_rule_count g) g.quiet
  pub fit : Every (rule_total g) (SymbolsFit g)
  pub rising : Every (rule_total g) (Rises g)
