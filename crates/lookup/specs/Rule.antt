-- Inside: a rule as it is read off an accepted image: what it says, with its symbols in range.
-- Assumes nothing.
use Rattle.std.specs.Prelude.{◌≡◌, ℕ, ◌≤◌, ◌<◌}
use Rattle.derivation.specs.Grammar.{Grammar, event_rule, pair_rule}
use Rattle.derivation.specs.Sound.{most_symbols}
use Rattle.lookup.specs.declared.Leaf.{Leaf}
use Rattle.lookup.specs.declared.Pair.{Pair}

-- l is event rule r
pub record LeafIs (g : Grammar) (r : ℕ) (l : Leaf) : Type 0 where
  pub symbol : l.symbol ≡ (event_rule g r).symbol
  pub event : l.event ≡ (event_rule g r).event
  pub symbol_fits : l.symbol < g.symbols

-- event rule r turns the symbol A into the event x
pub record Turns (g : Grammar) (r A x : ℕ) : Type 0 where
  pub symbol : (event_rule g r).symbol ≡ A
  pub event : (event_rule g r).event ≡ x

-- p is pair rule b
pub record PairIs (g : Grammar) (b : ℕ) (p : Pair) : Type 0 where
  pub symbol : p.symbol ≡ (pair_rule g b).symbol
  pub left : p.left ≡ (pair_rule g b).left
  pub right : p.right ≡ (pair_rule g b).right
  pub symbol_fits : p.symbol < g.symbols
  pub left_fits : p.left < g.symbols
  pub right_fits : p.right < g.symbols
  pub few : g.symbols ≤ most_symbols
