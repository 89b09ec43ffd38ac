-- The symbols that derive some events are the least set that no rule leaves upward, from its parts to its symbol, and those that can be reached the
-- least with symbol 0 that no pair rule leaves downward.
-- Assumes nothing.
use mathlib.Core.Path.{refl, sym, subst, subst₂}
use mathlib.Core.List.{List, [], ◌∷◌, ◌++◌}
use Prim.Native.Nat.{ℕ, ◌+◌, ◌-◌, ◌<◌}
use native.Mathlib.Nat.{add-zero}
use native.Mathlib.Omega.{arith}
use lib.ListN.{length, length-append}
use Rattle.derivation.specs.Grammar.{Grammar, event_rule_count, pair_rule_count, event_rule, pair_rule}
use Rattle.derivation.specs.Tree.{Tree, leaf, node, Derives}
use Rattle.derivation.specs.Live.{DerivesSome, Reached, start, left, right}
use Rattle.derivation.proofs.Around.{moved, more_behind, more_before}
use Rattle.derivation.proofs.Exact.{node_sound, some_events}

pub record Upward (g : Grammar) (In : ℕ → Type 0) : Type 0 where
  pub event : (r : ℕ) → r < event_rule_count g → In (event_rule g r).symbol
  pub pair : (b : ℕ) → b < pair_rule_count g → In (pair_rule g b).left → In (pair_rule g b).right → In (pair_rule g b).symbol

pub record Downward (g : Grammar) (In : ℕ → Type 0) : Type 0 where
  pub start : In 0
  pub left : (b : ℕ) → b < pair_rule_count g → In (pair_rule g b).symbol → In (pair_rule g b).left
  pub right : (b : ℕ) → b < pair_rule_count g → In (pair_rule g b).symbol → In (pair_rule g b).right

module _ (g : Grammar) where
  -- ---- no rule leaves them
  by_event_is : (r : ℕ) → r < event_rule_count g → DerivesSome g (event_rule g r).symbol
  by_event_is r l = record {
    events = (event_rule g r).event ∷ [];
    some = omega arith;
    derivable = (leaf r 1, record { rule = l; symbol = refl; event = refl; inside = omega arith; end = refl; place = refl });
  }

  -- two derivations make one over the two lists, one after the other
  abbrev pub join : ℕ → List ℕ → Tree → Tree → Tree
  join b v t u = node (event_rule_count g + b) (length v) t (moved (length v) u)

  pub joined : (b : ℕ) → b < pair_rule_count g → (v w : List ℕ) (t u : Tree)
      → Derives g v (pair_rule g b).left 0 (length v) t → Derives g w (pair_rule g b).right 0 (length w) u
      → Derives g (v ++ w) (pair_rule g b).symbol 0 (length (v ++ w)) (join b v t u)
  joined b l v w t u p q =
      let n = length-append v w in
      node_sound g (v ++ w) (pair_rule g b).symbol 0 (length (v ++ w)) b (length v) t (moved (length v) u) l
      (some_events g v _ 0 (length v) t p) (omega (arith, n, some_events g w _ 0 (length w) u q)) refl
      (more_behind g v w (pair_rule g b).left 0 (length v) t p)
      (subst₂ (λ (i k : ℕ). Derives g (v ++ w) (pair_rule g b).right i k (moved (length v) u)) (add-zero (length v)) (sym n)
      (more_before g v w (pair_rule g b).right 0 (length w) u q))

  by_pair_is : (b : ℕ) → b < pair_rule_count g → DerivesSome g (pair_rule g b).left → DerivesSome g (pair_rule g b).right → DerivesSome g (pair_rule g b).symbol
  by_pair_is b l x y =
      let p = x.derivable in
      let q = y.derivable in
      record {
        events = x.events ++ y.events;
        some = omega (arith, length-append x.events y.events, x.some);
        derivable = (join b x.events p.0 q.0, joined b l x.events y.events p.0 q.0 p.1 q.1);
      }

  pub derives_upward : Upward g (DerivesSome g)
  derives_upward = record { event = by_event_is; pair = by_pair_is }

  pub reached_downward : Downward g (Reached g)
  reached_downward = record { start = start; left = left; right = right }

  -- ---- and they are in every set that none leaves
  module _ (In : ℕ → Type 0) where
    pub tree_in : Upward g In → (w : List ℕ) (A i k : ℕ) (t : Tree) → Derives g w A i k t → In A
    tree_in c w A i k (leaf r p) d = subst In d.symbol (c.event r d.rule)
    tree_in c w A i k (node r j t u) d =
        let q = pair_rule g (r - event_rule_count g) in
        subst In d.0.symbol
        (c.pair (r - event_rule_count g) (omega (arith, d.0.low, d.0.high)) (tree_in c w q.left i j t d.1) (tree_in c w q.right j k u d.2))

    pub derives_least : Upward g In → (A : ℕ) → DerivesSome g A → In A
    derives_least c A d = tree_in c d.events A 0 (length d.events) d.derivable.0 d.derivable.1

    pub reached_least : Downward g In → (A : ℕ) → Reached g A → In A
    reached_least c A start = c.start
    reached_least c A (left b l h) = c.left b l (reached_least c (pair_rule g b).symbol h)
    reached_least c A (right b l h) = c.right b l (reached_least c (pair_rule g b).symbol h)
