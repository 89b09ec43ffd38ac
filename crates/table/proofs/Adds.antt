-- What the rules add to a cell's words is the number of derivations, held at the limit: by one event, or from the counts of the shorter stretches.
-- Assumes nothing.
use Prim.Native.Nat.{ℕ, ◌+◌, ◌≤◌, ◌<◌}
use native.Mathlib.Omega.{arith}
use native.Mathlib.Nat.{mul-one, mul-zero, lt_of_lt_of_le, le_trans}
use native.Mathlib.Decide.{ℕ_discrete}
use mathlib.Core.Path.{◌≡◌, refl, sym, ap, ◌∙◌}
use mathlib.Core.List.{List}
use lib.ListN.{length, get_or}
use Rattle.bits.specs.Sum.{sum, between}
use Rattle.bits.proofs.Truths.{same_eq, same_other}
use Rattle.bits.proofs.Sums.{sum_cong, sum_zero}
use Rattle.derivation.specs.Grammar.{Grammar, event_rule_count, pair_rule_count, pair_rule}
use Rattle.derivation.specs.Derivations.{count}
use Rattle.derivation.proofs.Counts.{by_event, by_split, by_pair, count_one, count_more}
use Rattle.derivation.specs.Sound.{Sound}
use Rattle.derivation.proofs.Sound.{pair_fits_at}
use Rattle.lookup.specs.declared.Pair.{Pair}
use Rattle.lookup.specs.Rule.{PairIs}
use Rattle.table.specs.Table.{held}
use Rattle.table.specs.Fill.{leaf_adds, split_adds, pair_adds, InReach, Right, Done, CountsIn}
use Rattle.table.proofs.Held.{held_mul, held_once, held_sum, held_between}
use Rattle.table.proofs.Slots.{words_on}
use Rattle.table.proofs.Cells.{pair_adds_is, pair_other}

pub leaf_counted : (g : Grammar) (w : List ℕ) (A i : ℕ) → i < length w → sum (event_rule_count g) (leaf_adds g (get_or w i 0) A) ≡ count g w A i (i + 1)
unfolding leaf_adds by_event
leaf_counted g w A i h = sum_cong (event_rule_count g) (leaf_adds g (get_or w i 0) A) (by_event g w A i) (λ r l. refl) ∙ sym (count_one g w A i h)

-- the table holds the counts of the two parts at each split of i to k
pub record Ready (g : Grammar) (w t : List ℕ) (i k : ℕ) : Type 0 where
  pub first : (A j : ℕ) → A < g.symbols → i < j → j < k → Right g w t A i j
  pub second : (A j : ℕ) → A < g.symbols → i < j → j < k → Right g w t A j k

pub ready_done : (g : Grammar) (w t : List ℕ) (i k : ℕ) → Done g w t (i + 1) k → Ready g w t i k
ready_done g w t i k d = record {
  first = λ A j a l h. d.at A i j a l (omega arith) (λ e. omega arith);
  second = λ A j a l h. d.at A j k a h (omega arith) (λ e. omega arith);
}

pub ready_in : (g : Grammar) (w t : List ℕ) (i k : ℕ) → CountsIn g w t → k ≤ length w → Ready g w t i k
ready_in g w t i k f h = record {
  first = λ A j a b c. f.at A i j a b (omega arith);
  second = λ A j a b c. f.at A j k a c h;
}

-- the words that the splits of i to k need for the two symbols of a pair rule
pub reached : (g : Grammar) (w t : List ℕ) (N b i k : ℕ) (p : Pair) → N ≡ g.symbols → CountsIn g w t → PairIs g b p → i < k → k ≤ length w → k < 65536
    → InReach t N p.left p.right i k
reached g w t N b i k p n c a l h few = rw n (record {
  symbols = a.few;
  left = a.left_fits;
  right = a.right_fits;
  some = l;
  few = few;
  fits = le_trans (words_on g.symbols k (length w) h) c.fits;
})

module _ (g : Grammar) (ok : Sound g) (w t : List ℕ) (i k : ℕ) (r : Ready g w t i k) where
  pub split_counted : (A q j : ℕ) → q < pair_rule_count g → (pair_rule g q).symbol ≡ A → i < j → j < k
      → held (split_adds t g.symbols (pair_rule g q).left (pair_rule g q).right i k j) ≡ held (by_split g w A i k q j)
  unfolding split_adds by_split
  split_counted A q j h e l m =
      let f = pair_fits_at g ok q h in
      held_once _ ∙ rw (r.first _ j f.left l m, r.second _ j f.right l m, same_eq (pair_rule g q).symbol A e, mul-one) (held_mul _ _)

  pub pair_counted : (A q : ℕ) → q < pair_rule_count g → held (pair_adds g t i k A q) ≡ held (by_pair g w A i k q)
  unfolding by_pair by_split between
  pair_counted A q h = elim (ℕ_discrete (pair_rule g q).symbol A) [
    | yes e ↦ rw (pair_adds_is g t i k q A e) (held_between i k _ _ (λ j l m. split_counted A q j h e l m))
    | no n ↦ rw (pair_other g t i k q A n) (ap held (sym (sum_zero _ _ (λ x l. rw (same_other (pair_rule g q).symbol A n) (mul-zero _)))))
  ]

  pub pairs_counted : (A q : ℕ) → q ≤ pair_rule_count g → held (sum q (pair_adds g t i k A)) ≡ held (sum q (by_pair g w A i k))
  pairs_counted A q h = held_sum q _ _ (λ x l. pair_counted A x (lt_of_lt_of_le l h))

  pub all_counted : (A : ℕ) → i + 1 < k → held (sum (pair_rule_count g) (pair_adds g t i k A)) ≡ held (count g w A i k)
  all_counted A h = pairs_counted A (pair_rule_count g) (omega arith) ∙ ap held (sym (count_more g w A i k h))
