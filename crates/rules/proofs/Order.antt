-- Rules of one kind compare as their numbers do, and an event rule is before every pair rule.
-- Assumes nothing.
use Prim.Native.Nat.{ℕ, ◌-◌, ◌<◌}
use native.Mathlib.Omega.{arith}
use mathlib.Core.Path.{◌≡◌, refl, sym, subst, subst₂}
use mathlib.Core.Bool.{Bool}
use mathlib.Core.Logic.{◌≢◌}
use mathlib.Core.List.{List, [], ◌∷◌}
use Rattle.std.proofs.Common.{Option, Some, Ordering, Less, Equal, Greater}
use Rattle.std.specs.Ordering.{partial_lt, nat_cmp, is_lt, is_some_and, partial_ordering_then, MatchOrdering}
use Rattle.std.proofs.lemmas.Cmp.{ranked}
use Rattle.bits.specs.Truth.{Decides}
use Rattle.bits.proofs.Truths.{decides_as}
use Rattle.derivation.specs.Grammar.{Grammar, event_rule_count, rule_total}
use Rattle.derivation.specs.Order.{Before, less, equal}
use Rattle.derivation.specs.Sound.{as_numbers, Rises}
use Rattle.derivation.proofs.Orders.{none_before}
use Rattle.rules.specs.Tests.{numbers}
use Rattle.rules.specs.declared.Rule.{Rule}
use Rattle.rules.specs.declared.Rule.TheVariants.{Leaf, Pair}
use Rattle.rules.specs.contracts.RulePartialOrd.TheImpl.{partial_cmp-value}
use Rattle.rules.proofs.Numbers.{is_leaf, is_pair}

-- the first difference decides
front : (x y : ℕ) (xs ys : List ℕ) (o : Option Ordering) → Decides (is_some_and is_lt o) (Before xs ys)
    → Decides (is_some_and is_lt (partial_ordering_then (Some (nat_cmp x y)) o)) (Before (x ∷ xs) (y ∷ ys))
front x y xs ys o d = by (nat_cmp x y) (ranked x y (nat_cmp x y) refl)
  where
    behind : x ≡ y → Before (x ∷ xs) (y ∷ ys) → Before xs ys
    behind e (less l) = absurd (omega arith)
    behind e (equal f b) = b

    past : y < x → Before (x ∷ xs) (y ∷ ys) → ⊥
    past l (less h) = omega arith
    past l (equal h b) = omega arith

    by : (c : Ordering) → MatchOrdering c (x < y) (x ≡ y) (y < x) → Decides (is_some_and is_lt (partial_ordering_then (Some c) o)) (Before (x ∷ xs) (y ∷ ys))
    by Less l = less l
    by Equal e = decides_as (is_some_and is_lt o) (equal e) (behind e) d
    by Greater l = past l

last : (x y : ℕ) → Decides (is_some_and is_lt (Some (nat_cmp x y))) (Before (x ∷ []) (y ∷ []))
last x y = subst (λ (o : Option Ordering). Decides (is_some_and is_lt o) (Before (x ∷ []) (y ∷ []))) (alone (nat_cmp x y)) (front x y [] [] (Some Equal) none_before)
  where
    alone : (c : Ordering) → partial_ordering_then (Some c) (Some Equal) ≡ Some c
    alone Less = refl
    alone Equal = refl
    alone Greater = refl

-- a rule that is not the first, and the one before it
module _ (g : Grammar) (r : ℕ) (some : 0 < r) (rule : r < rule_total g) where
  like : (ok : Bool) {xs ys : List ℕ} → xs ≡ as_numbers g (r - 1) → ys ≡ as_numbers g r → r ≢ event_rule_count g → Decides ok (Before xs ys) → Decides ok (Rises g r)
  like ok p q inner = decides_as ok (λ h _ _. subst₂ Before p q h) (λ h. subst₂ Before (sym p) (sym q) (h some inner))

  pub rise : (a b : Rule) → numbers a ≡ as_numbers g (r - 1) → numbers b ≡ as_numbers g r → Decides (partial_lt partial_cmp-value.it a b) (Rises g r)
  rise (Leaf s e) (Leaf t f) p q =
      let l = is_leaf g r rule q in
      like _ p q (λ h. omega arith) (front s t _ _ _ (last e f))
  rise (Pair s a b) (Pair t c d) p q =
      let l = is_pair g (r - 1) (omega arith) p in
      like _ p q (λ h. omega arith) (front s t _ _ _ (front a c _ _ _ (last b d)))
  rise (Leaf s e) (Pair t c d) p q =
      let l = is_leaf g (r - 1) (omega arith) p in
      let m = is_pair g r rule q in
      λ _ inner. absurd (inner (omega arith))
  rise (Pair s a b) (Leaf t f) p q =
      let l = is_pair g (r - 1) (omega arith) p in
      let m = is_leaf g r rule q in
      absurd (omega arith)
