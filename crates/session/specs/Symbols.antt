-- Shown: Bits of symbols that the grammar does not have: in the older columns of a session they make no difference, and a new column has none.
-- Assumes nothing.
use Rattle.std.specs.Prelude.{◌≡◌, ℕ, ◌+◌, ◌≤◌, ◌<◌}
use Rattle.bits.specs.Bit.{bit}
use Rattle.derivation.specs.Grammar.{Grammar}
use Rattle.columns.specs.NewColumn.{rd}
use Rattle.session.specs.declared.Session.{Session}
use Rattle.session.specs.Answer.{Added}

-- s and t have as many events, and their columns hold the same symbols of g
pub record SameSymbols (g : Grammar) (s t : Session) : Type 0 where
  pub count : s.count ≡ t.count
  pub held : (i k A : ℕ) → i < k → k ≤ s.count → A < g.symbols → bit (rd s.chart i k) A ≡ bit (rd t.chart i k) A

-- what was answered by a and by d: the same column q, with symbols of g alone, the same verdict and the same firings
pub record SameColumn (g : Grammar) (q : ℕ) (a d : Added) : Type 0 where
  pub words : (i : ℕ) → i ≤ q → rd a.session.chart i (q + 1) ≡ rd d.session.chart i (q + 1)
  pub clear : (i A : ℕ) → i ≤ q → g.symbols ≤ A → bit (rd a.session.chart i (q + 1)) A ≡ 0
  pub admitted : a.admitted ≡ d.admitted
  pub firings : a.firings ≡ d.firings
