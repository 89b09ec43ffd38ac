-- What each rule's number gives, and what a sound grammar gives to the services: symbols in range, rules that rise, none twice.
-- Assumes nothing.
use Prim.Native.Nat.{ℕ, ◌+◌, ◌-◌, ◌≤◌, ◌<◌, max}
use native.Mathlib.Nat.{lt_of_le_of_lt, le_of_eq, le_of_lt, add-sub_cancel_left}
use native.Mathlib.Decide.{dec_lt}
use native.Mathlib.Omega.{arith}
use mathlib.Core.Path.{◌≡◌, sym, ap, ◌∙◌, subst, subst₂}
use mathlib.Core.List.{List, [], ◌∷◌, map}
use lib.ListN.{get_or, length-map, get_or-append}
use lib.Seq.{get_or-append-add}
use Rattle.derivation.specs.Order.{Before, less, equal}
use Rattle.derivation.specs.Grammar.{EventRule, PairRule, Grammar, event_rule_count, pair_rule_count, rule_total, event_rule, pair_rule, by_rule, rule_symbol}
use Rattle.derivation.specs.Sound.{highest, as_numbers, Sound}
use Rattle.derivation.specs.Tree.{Tree, leaf, node, Derives}
use Rattle.derivation.proofs.Lists.{map_at}
use Rattle.derivation.proofs.Orders.{rises_far, not_before_self}

-- ---- one thing of each rule, by the rule's number
module _ {X : Type 0} (f : EventRule → X) (h : PairRule → X) (g : Grammar) (e : X) (r : ℕ) where
  pub by_leaf : r < event_rule_count g → get_or (by_rule f h g) r e ≡ f (event_rule g r)
  by_leaf l =
      get_or-append (map f g.leaves) (map h g.pairs) e r (rw length-map l)
      ∙ map_at f g.leaves r _ e l

  pub by_pair_is : event_rule_count g ≤ r → r < rule_total g → get_or (by_rule f h g) r e ≡ h (pair_rule g (r - event_rule_count g))
  by_pair_is l m =
      ap (λ (k : ℕ). get_or (by_rule f h g) k e) (omega (arith, length-map g.leaves f))
      ∙ get_or-append-add (map f g.leaves) (map h g.pairs) (r - event_rule_count g) e
      ∙ map_at h g.pairs (r - event_rule_count g) _ e (omega arith)

-- what is asked of rule r, in terms of its symbol and of what follows
module _ (g : Grammar) (r : ℕ) where
  module _ (l : r < event_rule_count g) where
    pub leaf_symbol : rule_symbol g r ≡ (event_rule g r).symbol
    unfolding rule_symbol
    leaf_symbol = by_leaf (λ q. q.symbol) (λ q. q.symbol) g 0 r l

    pub leaf_highest : highest g r ≡ rule_symbol g r
    leaf_highest = by_leaf (λ q. q.symbol) (λ q. max q.symbol (max q.left q.right)) g 0 r l ∙ sym leaf_symbol

    pub leaf_numbers : as_numbers g r ≡ rule_symbol g r ∷ (event_rule g r).event ∷ []
    leaf_numbers = by_leaf _ _ g [] r l ∙ ap (λ (s : ℕ). s ∷ (event_rule g r).event ∷ []) (sym leaf_symbol)

  module _ (l : event_rule_count g ≤ r) (m : r < rule_total g) where
    pub pair_symbol : rule_symbol g r ≡ (pair_rule g (r - event_rule_count g)).symbol
    unfolding rule_symbol
    pair_symbol = by_pair_is (λ q. q.symbol) (λ q. q.symbol) g 0 r l m

    pub pair_highest : highest g r ≡ max (rule_symbol g r) (max (pair_rule g (r - event_rule_count g)).left (pair_rule g (r - event_rule_count g)).right)
    pair_highest =
        by_pair_is (λ q. q.symbol) (λ q. max q.symbol (max q.left q.right)) g 0 r l m
        ∙ ap (λ (s : ℕ). max s (max (pair_rule g (r - event_rule_count g)).left (pair_rule g (r - event_rule_count g)).right)) (sym pair_symbol)

    pub pair_numbers : as_numbers g r ≡ rule_symbol g r ∷ (pair_rule g (r - event_rule_count g)).left ∷ (pair_rule g (r - event_rule_count g)).right ∷ []
    pair_numbers =
        by_pair_is _ _ g [] r l m
        ∙ ap (λ (s : ℕ). s ∷ (pair_rule g (r - event_rule_count g)).left ∷ (pair_rule g (r - event_rule_count g)).right ∷ []) (sym pair_symbol)

  -- of either kind the symbol is not above the highest
  pub symbol_highest : r < rule_total g → rule_symbol g r ≤ highest g r
  symbol_highest m =
      elim (dec_lt r (event_rule_count g)) [
        | yes l ↦ le_of_eq (sym (leaf_highest l))
        | no l ↦ let h : event_rule_count g ≤ r = omega arith in omega (arith, pair_highest h m)
      ]

-- ---- symbols in range
pub record PairFits (N : ℕ) (q : PairRule) : Type 0 where
  pub symbol : q.symbol < N
  pub left : q.left < N
  pub right : q.right < N

module _ (g : Grammar) (s : Sound g) where
  pub symbol_fits : (r : ℕ) → r < rule_total g → rule_symbol g r < g.symbols
  symbol_fits r m = lt_of_le_of_lt (symbol_highest g r m) (s.fit r m)

  pub leaf_fits_is : (r : ℕ) → r < event_rule_count g → (event_rule g r).symbol < g.symbols
  leaf_fits_is r l = omega (arith, symbol_fits r (omega arith), leaf_symbol g r l)

  pub pair_fits : (r : ℕ) → event_rule_count g ≤ r → r < rule_total g → PairFits g.symbols (pair_rule g (r - event_rule_count g))
  pair_fits r l m = omega (arith, s.fit r m, pair_highest g r l m, pair_symbol g r l m)

  -- of pair rule b, whose number is event_rule_count g + b
  pub pair_fits_at : (b : ℕ) → b < pair_rule_count g → PairFits g.symbols (pair_rule g b)
  pair_fits_at b h = rw add-sub_cancel_left at (pair_fits (event_rule_count g + b) (omega arith) (omega arith))

  -- what is derived is one of the N symbols
  pub derives_fits : (w : List ℕ) (A i k : ℕ) (t : Tree) → Derives g w A i k t → A < g.symbols
  derives_fits w A i k (leaf r p) d = rw (← d.symbol) (leaf_fits_is r d.rule)
  derives_fits w A i k (node r j t u) d = rw (← d.0.symbol) (pair_fits r d.0.low d.0.high).symbol

-- ---- rules rise, so none stands twice
-- the first number of the earlier list is not the larger one
first_rises : {x y : ℕ} {xs ys : List ℕ} → Before (x ∷ xs) (y ∷ ys) → x ≤ y
first_rises (less h) = le_of_lt h
first_rises (equal e h) = omega arith

module _ (g : Grammar) (s : Sound g) where
  pub leaves_rise : (r q : ℕ) → r < q → q < event_rule_count g → Before (as_numbers g r) (as_numbers g q)
  leaves_rise r q l m = rises_far (as_numbers g) 0 (event_rule_count g) (λ k z h. s.rising k (omega arith) z (λ e. omega arith)) r q (omega arith) l m

  pub pairs_rise : (r q : ℕ) → event_rule_count g ≤ r → r < q → q < rule_total g → Before (as_numbers g r) (as_numbers g q)
  pairs_rise r q z l m =
      rises_far (as_numbers g) (event_rule_count g) (rule_total g) (λ k z h. s.rising k h (omega arith) (λ e. omega arith)) r q z l m

  -- so their symbols do, by the numbers of the rules, and of pair rules counted by themselves
  pub leaf_symbols_rise : (r q : ℕ) → r < q → q < event_rule_count g → rule_symbol g r ≤ rule_symbol g q
  leaf_symbols_rise r q l m = first_rises (subst₂ Before (leaf_numbers g r (omega arith)) (leaf_numbers g q m) (leaves_rise r q l m))

  pub pair_symbols_rise : (r q : ℕ) → event_rule_count g ≤ r → r < q → q < rule_total g → rule_symbol g r ≤ rule_symbol g q
  pair_symbols_rise r q z l m = first_rises (subst₂ Before (pair_numbers g r z (omega arith)) (pair_numbers g q (omega arith) m) (pairs_rise r q z l m))

  pub counted_symbol : (b : ℕ) → b < pair_rule_count g → rule_symbol g (event_rule_count g + b) ≡ (pair_rule g b).symbol
  counted_symbol b h = pair_symbol g (event_rule_count g + b) (omega arith) (omega arith) ∙ ap (λ (k : ℕ). (pair_rule g k).symbol) (add-sub_cancel_left _ _)

  pub symbols_rise : (b c : ℕ) → b < c → c < pair_rule_count g → (pair_rule g b).symbol ≤ (pair_rule g c).symbol
  symbols_rise b c l h =
      omega (arith, counted_symbol b (omega arith), counted_symbol c h, pair_symbols_rise (event_rule_count g + b) (event_rule_count g + c) (omega arith) (omega arith) (omega arith))

  -- two equal rules would be one that is before itself
  same_rule : (r q : ℕ) → as_numbers g r ≡ as_numbers g q → Before (as_numbers g r) (as_numbers g q) → ⊥
  same_rule r q e b = not_before_self (subst (Before (as_numbers g r)) (sym e) b)

  pub leaf_once : (r q : ℕ) → r < q → q < event_rule_count g → event_rule g r ≡ event_rule g q → ⊥
  leaf_once r q l m e =
      same_rule r q
      (by_leaf _ _ g [] r (omega arith) ∙ ap (λ (t : EventRule). t.symbol ∷ t.event ∷ []) e ∙ sym (by_leaf _ _ g [] q m))
      (leaves_rise r q l m)

  pub pair_once : (r q : ℕ) → event_rule_count g ≤ r → r < q → q < rule_total g → pair_rule g (r - event_rule_count g) ≡ pair_rule g (q - event_rule_count g) → ⊥
  pair_once r q z l m e =
      same_rule r q
      (by_pair_is _ _ g [] r z (omega arith) ∙ ap (λ (t : PairRule). t.symbol ∷ t.left ∷ t.right ∷ []) e
      ∙ sym (by_pair_is _ _ g [] q (omega arith) m))
      (pairs_rise r q z l m)
