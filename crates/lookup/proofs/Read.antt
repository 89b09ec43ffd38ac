-- From what the image's functions say of a rule by its number to the rule itself, with its symbols in range.
-- Assumes nothing.
use mathlib.Core.Path.{◌≡◌, ap, ◌∙◌}
use Prim.Native.Nat.{ℕ, ◌+◌, ◌-◌, ◌<◌}
use native.Mathlib.Omega.{arith}
use Rattle.derivation.specs.Grammar.{Grammar, event_rule_count, pair_rule_count, event_rule, pair_rule, rule_symbol}
use Rattle.derivation.specs.Sound.{Sound}
use Rattle.derivation.proofs.Sound.{leaf_symbol, pair_symbol, leaf_fits_is, pair_fits_at}
use Rattle.lookup.specs.declared.Leaf.{Leaf}
use Rattle.lookup.specs.declared.Pair.{Pair}
use Rattle.lookup.specs.Rule.{LeafIs, PairIs}

module _ (g : Grammar) (ok : Sound g) where
  pub leaf_read : (r : ℕ) (l : Leaf) → r < event_rule_count g → l.symbol ≡ rule_symbol g r → l.event ≡ (event_rule g r).event → LeafIs g r l
  leaf_read r l h s x =
      let e : l.symbol ≡ (event_rule g r).symbol = s ∙ leaf_symbol g r h in
      record { symbol = e; event = x; symbol_fits = rw e (leaf_fits_is g ok r h) }

  pub pair_read : (b r : ℕ) (p : Pair) → r ≡ event_rule_count g + b → b < pair_rule_count g → p.symbol ≡ rule_symbol g r
      → p.left ≡ (pair_rule g (r - event_rule_count g)).left → p.right ≡ (pair_rule g (r - event_rule_count g)).right → PairIs g b p
  pair_read b r p e h s x y =
      let d : r - event_rule_count g ≡ b = omega arith in
      let f = pair_fits_at g ok b h in
      let s' : p.symbol ≡ (pair_rule g b).symbol = s ∙ pair_symbol g r (omega arith) (omega arith) ∙ ap (λ (k : ℕ). (pair_rule g k).symbol) d in
      let x' : p.left ≡ (pair_rule g b).left = x ∙ ap (λ (k : ℕ). (pair_rule g k).left) d in
      let y' : p.right ≡ (pair_rule g b).right = y ∙ ap (λ (k : ℕ). (pair_rule g k).right) d in
      record {
        symbol = s';
        left = x';
        right = y';
        symbol_fits = rw s' f.symbol;
        left_fits = rw x' f.left;
        right_fits = rw y' f.right;
        few = ok.range.symbols;
      }
