-- Inside: what a function that reads a rule asks: all the rules are there, and the one that it reads is among them.
-- Assumes nothing.
use Rattle.std.specs.Prelude.{List, ℕ, ◌≤◌, ◌<◌}
use Rattle.derivation.specs.Grammar.{event_rule_count, rule_total}
use Rattle.layout.specs.Layout.{Whole, decode}

pub record HasRule (b : List ℕ) (r : ℕ) : Type 0 where
  pub whole : Whole b
  pub below : r < rule_total (decode b)

pub record HasLeaf (b : List ℕ) (r : ℕ) : Type 0 where
  pub whole : Whole b
  pub below : r < event_rule_count (decode b)

pub record HasPair (b : List ℕ) (r : ℕ) : Type 0 where
  pub whole : Whole b
  pub from : event_rule_count (decode b) ≤ r
  pub below : r < rule_total (decode b)
