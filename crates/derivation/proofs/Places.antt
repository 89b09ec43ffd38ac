-- Where a derivation stands among those of its [A, i, k]: what a number is unranked by, and a script ranked.
-- Assumes nothing.
use mathlib.Core.Path.{◌≡◌, sym, ap, ◌∙◌}
use mathlib.Core.List.{List, [], ◌∷◌, ◌++◌}
use Prim.Native.Nat.{ℕ, ◌+◌, ◌-◌, ◌*◌, ◌<◌}
use native.Mathlib.Nat.{mul-le-mul_right, mul-zero, zero-mul}
use native.Mathlib.Decide.{ℕ_discrete}
use native.Mathlib.Omega.{arith}
use lib.Dec.{eqb, lt→ltb}
use lib.ListN.{length, get_or, get_or-append}
use lib.Seq.{get_or-append-add}
use Rattle.bits.specs.Truth.{same}
use Rattle.bits.specs.Sum.{sum, between}
use Rattle.bits.proofs.Truths.{same_eq, same_other}
use Rattle.bits.proofs.Sums.{sum_cong, sum_zero, sum_room, between_room}
use Rattle.derivation.specs.Grammar.{Grammar, event_rule_count, pair_rule_count, event_rule, pair_rule}
use Rattle.derivation.specs.Sound.{Sound}
use Rattle.derivation.specs.Tree.{Tree, leaf, node}
use Rattle.derivation.specs.Derivations.{join, cross, leaf_fits, leaf_at, nodes_at, splits_at, level, derivations, count}
use Rattle.derivation.specs.Numbering.{none}
use Rattle.derivation.proofs.Lists.{eq→eqb, gate_yes, length_join, join_at, cross_at, both}
use Rattle.derivation.proofs.Sound.{leaf_once}
use Rattle.derivation.proofs.Rising.{step}
use Rattle.derivation.proofs.Counts.{by_event, by_split, by_pair, length_one, no_leaves, length_split, length_pair, count_more}

module _ (g : Grammar) (w : List ℕ) where
  -- ---- the derivation by event rule r
  module _ (A i r : ℕ) (inside : i < length w) (rule : r < event_rule_count g)
      (symbol : (event_rule g r).symbol ≡ A) (event : (event_rule g r).event ≡ get_or w i 0) where
    event_at : get_or (leaf_at g w A i (i + 1) r) 0 none ≡ leaf r (i + 1)
    unfolding leaf_at
    event_at = rw (gate_yes (leaf_fits g w A i (i + 1) r) (leaf r (i + 1) ∷ []) (search (both, eq→eqb, lt→ltb)))

    event_room : 0 < length (leaf_at g w A i (i + 1) r)
    unfolding by_event
    event_room = omega (arith, length_one g w A i r inside, one)
      where
        one : same (event_rule g r).event (get_or w i 0) * same (event_rule g r).symbol A ≡ 1
        one = rw (same_eq (event_rule g r).event (get_or w i 0) event, same_eq (event_rule g r).symbol A symbol)

    pub leaf_at_is : get_or (derivations g w A i (i + 1)) (sum r (by_event g w A i)) none ≡ leaf r (i + 1)
    unfolding level
    leaf_at_is =
        let f : ℕ → List Tree = leaf_at g w A i (i + 1) in
        let e : sum r (by_event g w A i) ≡ sum r (λ s. length (f s)) + 0 =
        sum_cong r _ _ (λ s l. sym (length_one g w A i s inside)) ∙ omega arith in
        let l : sum r (λ s. length (f s)) + 0 < length (join (event_rule_count g) f) =
        rw length_join (sum_room (event_rule_count g) (λ s. length (f s)) r 0 rule event_room) in
        rw (step g w A i (i + 1), e)
        (get_or-append (join (event_rule_count g) f) (join (pair_rule_count g) (splits_at g (derivations g w) A i (i + 1))) none (sum r (λ s. length (f s)) + 0) l
        ∙ join_at none (event_rule_count g) f r 0 rule event_room ∙ event_at)

    -- no other event rule of a sound grammar turns A into that event, so it is the first of them
    pub leaf_first : Sound g → get_or (derivations g w A i (i + 1)) 0 none ≡ leaf r (i + 1)
    unfolding by_event
    leaf_first o = ap (λ (q : ℕ). get_or (derivations g w A i (i + 1)) q none) (sym (sum_zero r _ none_before)) ∙ leaf_at_is
      where
        same_leaf : (s : ℕ) → (event_rule g s).event ≡ get_or w i 0 → (event_rule g s).symbol ≡ A → event_rule g s ≡ event_rule g r
        same_leaf s e a = λ x. record { symbol = (a ∙ sym symbol) x; event = (e ∙ sym event) x }

        none_before : (s : ℕ) → s < r → by_event g w A i s ≡ 0
        none_before s l = elim (ℕ_discrete (event_rule g s).event (get_or w i 0)) [
          | no e ↦ rw (same_other (event_rule g s).event (get_or w i 0) e) (zero-mul _)
          | yes e ↦ elim (ℕ_discrete (event_rule g s).symbol A) [
            | no a ↦ rw (same_other (event_rule g s).symbol A a) (mul-zero _)
            | yes a ↦ absurd (leaf_once g o s r l rule (same_leaf s e a))
          ]
        ]

  -- ---- number m of those by pair rule b and the split j
  module _ (A i k b j : ℕ) (rule : b < pair_rule_count g) (after : i < j) (before : j < k) where
    split_in : (m : ℕ) → m < by_split g w A i k b j
        → get_or (splits_at g (derivations g w) A i k b) (between i j (by_split g w A i k b) + m) none ≡ get_or (nodes_at g (derivations g w) A i k b j) m none
    unfolding splits_at between
    split_in m h =
        let N : ℕ → List Tree = nodes_at g (derivations g w) A i k b in
        let d : i + 1 + (j - (i + 1)) ≡ j = omega arith in
        let e : sum (j - (i + 1)) (λ x. by_split g w A i k b (i + 1 + x)) ≡ sum (j - (i + 1)) (λ x. length (N (i + 1 + x))) =
        sum_cong (j - (i + 1)) _ _ (λ x l. sym (length_split g w A i k b (i + 1 + x))) in
        let l : m < length (N (i + 1 + (j - (i + 1)))) = rw d (omega (arith, length_split g w A i k b j)) in
        rw e (join_at none (k - (i + 1)) (λ x. N (i + 1 + x)) (j - (i + 1)) m (omega arith) l) ∙ ap (λ (y : ℕ). get_or (N y) m none) d

    pair_room : (m : ℕ) → m < by_split g w A i k b j → between i j (by_split g w A i k b) + m < by_pair g w A i k b
    unfolding by_pair
    pair_room m h = between_room i j k (by_split g w A i k b) m after before h

    pub split_place : (m : ℕ) → m < by_split g w A i k b j
        → get_or (derivations g w A i k) (sum b (by_pair g w A i k) + (between i j (by_split g w A i k b) + m)) none
        ≡ get_or (nodes_at g (derivations g w) A i k b j) m none
    unfolding level
    split_place m h =
        let S : ℕ → List Tree = splits_at g (derivations g w) A i k in
        let E : List Tree = join (event_rule_count g) (leaf_at g w A i k) in
        let p : sum b (by_pair g w A i k) ≡ sum b (λ c. length (S c)) = sum_cong b _ _ (λ c l. sym (length_pair g w A i k c)) in
        let z : length E ≡ 0 = no_leaves g w A i k (omega arith) in
        let n : ℕ = sum b (λ c. length (S c)) + (between i j (by_split g w A i k b) + m) in
        let q : n ≡ length E + n = omega arith in
        let o : between i j (by_split g w A i k b) + m < length (S b) = rw (length_pair g w A i k b) (pair_room m h) in
        rw (step g w A i k, p)
        (ap (λ (y : ℕ). get_or (E ++ join (pair_rule_count g) S) y none) q ∙ get_or-append-add E (join (pair_rule_count g) S) n none
        ∙ join_at none (pair_rule_count g) S b (between i j (by_split g w A i k b) + m) rule o ∙ split_in m h)

    -- from the left part's number x and the right part's number y
    module _ (x y : ℕ) (e : (pair_rule g b).symbol ≡ A) (hx : x < count g w (pair_rule g b).left i j) (hy : y < count g w (pair_rule g b).right j k) where
      abbrev among : ℕ
      among = x * count g w (pair_rule g b).right j k + y

      node_in : among < by_split g w A i k b j
      unfolding by_split
      node_in = rw (same_eq (pair_rule g b).symbol A e) (omega (arith, mul-le-mul_right (count g w (pair_rule g b).right j k) hx))

      pub node_at : get_or (derivations g w A i k) (sum b (by_pair g w A i k) + (between i j (by_split g w A i k b) + among)) none
          ≡ node (event_rule_count g + b) j (get_or (derivations g w (pair_rule g b).left i j) x none) (get_or (derivations g w (pair_rule g b).right j k) y none)
      unfolding nodes_at count
      node_at =
          let p = pair_rule g b in
          split_place among node_in
          ∙ rw (gate_yes (eqb p.symbol A) (cross (node (event_rule_count g + b) j) (derivations g w p.left i j) (derivations g w p.right j k)) (eq→eqb p.symbol A e))
          (cross_at none (node (event_rule_count g + b) j) (derivations g w p.left i j) (derivations g w p.right j k) x y hx hy)

      pub node_room : sum b (by_pair g w A i k) + (between i j (by_split g w A i k b) + among) < count g w A i k
      node_room = rw (count_more g w A i k (omega arith)) (sum_room (pair_rule_count g) (by_pair g w A i k) b _ rule (pair_room among node_in))
