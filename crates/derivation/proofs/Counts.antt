-- How many derivations there are: by rules and splits, from those of the shorter stretches. "Some" is "not 0".
-- Assumes nothing.
use mathlib.Core.Path.{◌≡◌, refl, ap, ap₂, ◌∙◌}
use mathlib.Core.Bool.{Bool, true, false, ◌&&◌}
use mathlib.Core.List.{List, [], ◌∷◌}
use Prim.Native.Nat.{ℕ, ◌+◌, ◌-◌, ◌*◌, ◌<◌, min}
use native.Mathlib.Nat.{mul-one, mul_comm}
use native.Mathlib.Omega.{arith}
use borrow.Author.Tests.{lt-ltb, eq-eqb, ne_eqb}
use lib.Dec.{eqb}
use lib.ListN.{length, get_or, length-append}
use Rattle.bits.specs.Truth.{same}
use Rattle.bits.specs.Sum.{sum, between}
use Rattle.bits.proofs.Sums.{sum_cong, sum_zero, sum_swap, between_none, some_cong, some_mul, some_once}
use Rattle.derivation.specs.Grammar.{Grammar, event_rule_count, pair_rule_count, event_rule, pair_rule}
use Rattle.derivation.specs.Tree.{leaf, node, Derivable}
use Rattle.derivation.specs.Derivations.{join, leaf_fits, leaf_at, nodes_at, splits_at, level, derivations, count, known}
use Rattle.derivation.specs.Numbering.{none}
use Rattle.derivation.proofs.Lists.{truth, truth_and, truth_eqb, length_join, length_gate, length_cross, in_get_d, place_of_is}
use Rattle.derivation.proofs.Exact.{derivations_sound, derivations_complete}
use Rattle.derivation.proofs.Rising.{step}

-- ---- the parts of a count
-- how many derivations of A over (i, i + 1) are by event rule r: 0 or 1
unfoldable pub by_event : Grammar → List ℕ → ℕ → ℕ → ℕ → ℕ
by_event g w A i r = same (event_rule g r).event (get_or w i 0) * same (event_rule g r).symbol A

-- how many of A over (i, k) are by pair rule b and the split j, and by pair rule b
unfoldable pub by_split : Grammar → List ℕ → ℕ → ℕ → ℕ → ℕ → ℕ → ℕ
by_split g w A i k b j = count g w (pair_rule g b).left i j * count g w (pair_rule g b).right j k * same (pair_rule g b).symbol A

unfoldable pub by_pair : Grammar → List ℕ → ℕ → ℕ → ℕ → ℕ → ℕ
by_pair g w A i k b = between i k (by_split g w A i k b)

and_false : (b : Bool) → b && false ≡ false
and_false true = refl
and_false false = refl

and_true : (b : Bool) → b && true ≡ b
and_true true = refl
and_true false = refl

module _ (g : Grammar) (w : List ℕ) where
  -- ---- the parts of `level`, by length
  leaf_fits_one : (A i r : ℕ) → i < length w → truth (leaf_fits g w A i (i + 1) r) ≡ by_event g w A i r
  unfolding by_event
  leaf_fits_one A i r h =
      simp (lt-ltb i (length w) h, eq-eqb (i + 1) (i + 1) refl, and_true, truth_and, truth_eqb)

  leaf_fits_more : (A i k r : ℕ) → i + 1 < k → truth (leaf_fits g w A i k r) ≡ 0
  leaf_fits_more A i k r h = simp (ne_eqb k (i + 1) (λ e. omega arith), and_false)

  length_leaf : (A i k r : ℕ) → length (leaf_at g w A i k r) ≡ truth (leaf_fits g w A i k r)
  unfolding leaf_at
  length_leaf A i k r = length_gate (leaf_fits g w A i k r) (leaf r (i + 1) ∷ []) ∙ mul-one _

  pub length_one : (A i r : ℕ) → i < length w → length (leaf_at g w A i (i + 1) r) ≡ by_event g w A i r
  length_one A i r h = length_leaf A i (i + 1) r ∙ leaf_fits_one A i r h

  -- no event rule makes more than one event
  pub no_leaves : (A i k : ℕ) → i + 1 < k → length (join (event_rule_count g) (leaf_at g w A i k)) ≡ 0
  no_leaves A i k h =
      length_join (event_rule_count g) (leaf_at g w A i k)
      ∙ sum_zero (event_rule_count g) _ (λ r l. length_leaf A i k r ∙ leaf_fits_more A i k r h)

  pub length_split : (A i k b j : ℕ) → length (nodes_at g (derivations g w) A i k b j) ≡ by_split g w A i k b j
  unfolding nodes_at by_split count
  length_split A i k b j =
      length_gate (eqb (pair_rule g b).symbol A) _
      ∙ ap₂ ◌*◌ (truth_eqb (pair_rule g b).symbol A) (length_cross (node (event_rule_count g + b) j) _ _) ∙ mul_comm _ _

  pub length_pair : (A i k b : ℕ) → length (splits_at g (derivations g w) A i k b) ≡ by_pair g w A i k b
  unfolding splits_at by_pair between
  length_pair A i k b =
      length_join (k - (i + 1)) (λ x. nodes_at g (derivations g w) A i k b (i + 1 + x))
      ∙ sum_cong (k - (i + 1)) _ _ (λ x l. length_split A i k b (i + 1 + x))

  parts : (A i k : ℕ) → count g w A i k
      ≡ length (join (event_rule_count g) (leaf_at g w A i k)) + sum (pair_rule_count g) (by_pair g w A i k)
  unfolding count level
  parts A i k =
      ap length (step g w A i k) ∙ length-append (join (event_rule_count g) (leaf_at g w A i k)) (join (pair_rule_count g) (splits_at g (derivations g w) A i k))
      ∙ ap (λ (n : ℕ). length (join (event_rule_count g) (leaf_at g w A i k)) + n)
      (length_join (pair_rule_count g) (splits_at g (derivations g w) A i k) ∙ sum_cong (pair_rule_count g) _ _ (λ b l. length_pair A i k b))

  -- ---- the count: over one event by the event rules, over more by the pair rules and their splits
  no_split : (A i b : ℕ) → by_pair g w A i (i + 1) b ≡ 0
  unfolding by_pair
  no_split A i b = between_none i (i + 1) _ (omega arith)

  pub count_one : (A i : ℕ) → i < length w → count g w A i (i + 1) ≡ sum (event_rule_count g) (by_event g w A i)
  count_one A i h =
      let e : length (join (event_rule_count g) (leaf_at g w A i (i + 1))) ≡ sum (event_rule_count g) (by_event g w A i) =
      length_join (event_rule_count g) (leaf_at g w A i (i + 1)) ∙ sum_cong (event_rule_count g) _ _ (λ r l. length_one A i r h) in
      omega (arith, parts A i (i + 1), e, sum_zero (pair_rule_count g) (by_pair g w A i (i + 1)) (λ b l. no_split A i b))

  pub count_more : (A i k : ℕ) → i + 1 < k → count g w A i k ≡ sum (pair_rule_count g) (by_pair g w A i k)
  count_more A i k h = omega (arith, parts A i k, no_leaves A i k h)

  -- ---- some derivation: the count is not 0
  pub count_of : (A i k : ℕ) → Derivable g w A i k → 0 < count g w A i k
  unfolding count
  count_of A i k d =
      let q = place_of_is none (derivations g w A i k) (derivations_complete g w A i k d.0 d.1) in
      omega (arith, q.1)

  pub of_count : (A i k : ℕ) → 0 < count g w A i k → Derivable g w A i k
  unfolding count
  of_count A i k h = (get_or (derivations g w A i k) 0 none, derivations_sound g w A i k (in_get_d none (derivations g w A i k) 0 h))

  pub known_lt : (A i k : ℕ) → known g w i k A < 2
  unfolding known
  known_lt A i k = omega arith

  pub known_of : (A i k : ℕ) → Derivable g w A i k → known g w i k A ≡ 1
  unfolding known
  known_of A i k d = omega (arith, count_of A i k d)

  pub of_known : (A i k : ℕ) → known g w i k A ≡ 1 → Derivable g w A i k
  unfolding known
  of_known A i k e = of_count A i k (omega arith)

  -- ---- the two laws of `known`, with no trees and no counts in them
  pub known_one : (A i : ℕ) → i < length w
      → known g w i (i + 1) A ≡ min 1 (sum (event_rule_count g) (λ r. same (event_rule g r).event (get_or w i 0) * same (event_rule g r).symbol A))
  unfolding known by_event
  known_one A i h = ap (min 1) (count_one A i h)

  some_term : (x y s : ℕ) → min 1 (x * y * s) ≡ min 1 (min 1 x * min 1 y * s)
  some_term x y s = simp (some_mul, some_once)

  pub known_more : (A i k : ℕ) → i + 1 < k
      → known g w i k A ≡ min 1 (between i k (λ j. sum (pair_rule_count g) (λ b.
      known g w i j (pair_rule g b).left * known g w j k (pair_rule g b).right * same (pair_rule g b).symbol A)))
  unfolding known by_pair by_split between
  known_more A i k h =
      ap (min 1) (count_more A i k h ∙ sum_swap (pair_rule_count g) (k - (i + 1)) _)
      ∙ some_cong (k - (i + 1)) _ _ (λ x l. some_cong (pair_rule_count g) _ _ (λ b m. some_term _ _ _))
