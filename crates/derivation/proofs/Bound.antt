-- How many firings there can be: n·N + B(n³ − n)/6. At most N event rules fire at a place, because rules rise, and at most
-- B pair rules at each of the (n³ − n)/6 triples i < j < k.
-- Assumes nothing.
use mathlib.Core.Path.{◌≡◌, sym, ap, ◌∙◌, subst₂}
use mathlib.Core.List.{List, [], ◌∷◌}
use Prim.Native.Nat.{ℕ, zero, suc, ◌+◌, ◌-◌, ◌*◌, ◌/◌, ◌^◌, ◌≤◌, ◌<◌, zero-le}
use native.Mathlib.Nat.{le_step, lt-suc_self, pow-suc, pow-zero, one-mul}
use native.Mathlib.Decide.{ℕ_discrete}
use native.Mathlib.Omega.{arith}
use lib.ListN.{length, get_or}
use Rattle.bits.specs.Truth.{same}
use Rattle.bits.specs.Sum.{sum, between}
use Rattle.bits.proofs.Truths.{same_eq, same_other}
use Rattle.bits.proofs.Sums.{sum_le, between_le, product_le}
use Rattle.derivation.specs.Grammar.{Grammar, event_rule_count, pair_rule_count, event_rule, pair_rule}
use Rattle.derivation.specs.Order.{Before, less, equal}
use Rattle.derivation.specs.Sound.{Sound}
use Rattle.derivation.specs.Derivations.{known}
use Rattle.derivation.specs.Chart.{event_firings, pair_firings, cell_firings, column_firings, firings, firings_bound}
use Rattle.derivation.proofs.Orders.{none_before}
use Rattle.derivation.proofs.Sound.{by_leaf, leaf_fits_is, leaves_rise}
use Rattle.derivation.proofs.Counts.{known_lt}

-- two event rules of the same event, in order: the earlier has the smaller symbol
earlier : (a b x y : ℕ) → x ≡ y → Before (a ∷ x ∷ []) (b ∷ y ∷ []) → a < b
earlier a b x y e (less l) = l
earlier a b x y e (equal f (less l)) = absurd (omega arith)
earlier a b x y e (equal f (equal h p)) = absurd (none_before p)

-- at most one of the first n event rules for each symbol below c makes e
module _ (g : Grammar) (e : ℕ) (o : Sound g) where
  rules_le : (n c : ℕ) → n ≤ event_rule_count g → ((r : ℕ) → r < n → (event_rule g r).event ≡ e → (event_rule g r).symbol < c)
      → sum n (λ r. same (event_rule g r).event e) ≤ c
  unfolding sum
  rules_le zero c h b = zero-le
  rules_le (suc n) c h b =
      elim (ℕ_discrete (event_rule g n).event e) [
        | yes q ↦
            rw (same_eq (event_rule g n).event e q)
            (omega (
              arith,
              rules_le n (event_rule g n).symbol (omega arith) (λ r l p. earlier _ _ _ _ (p ∙ sym q) (subst₂ Before (by_leaf _ _ g [] r (omega arith)) (by_leaf _ _ g [] n h) (leaves_rise g o r n l h))),
              b n (lt-suc_self n) q,
            ))
        | no q ↦
            rw (same_other (event_rule g n).event e q) (omega (arith, rules_le n c (omega arith) (λ r l p. b r (le_step l) p)))
      ]

  pub event_le : event_firings g e ≤ g.symbols
  unfolding event_firings
  event_le = rules_le (event_rule_count g) g.symbols (omega arith) (λ r l p. leaf_fits_is g o r l)

cube_le : (n : ℕ) → n ≤ n * n * n
cube_le zero = zero-le
cube_le (suc n) = omega arith

cube : (n : ℕ) → n * n * n ≡ n ^ 3 - n + n
cube n = let e : n ^ 3 ≡ n * n * n = pow-suc n 2 ∙ ap (λ (x : ℕ). x * n) (pow-suc n 1 ∙ ap (λ (x : ℕ). x * n) (pow-suc n 0 ∙ ap (λ (x : ℕ). x * n) (pow-zero n) ∙ one-mul n)) in omega (arith, cube_le n, e)

module _ (g : Grammar) (w : List ℕ) where
  pair_le : (i j k : ℕ) → pair_firings g (known g w) i j k ≤ pair_rule_count g
  unfolding pair_firings
  pair_le i j k =
      omega (
        arith,
        sum_le (pair_rule_count g) 1 (λ b. known g w i j (pair_rule g b).left * known g w j k (pair_rule g b).right)
            (λ b h. product_le _ _ (known_lt g w (pair_rule g b).left i j) (known_lt g w (pair_rule g b).right j k)),
      )

  -- the splits of (i, q + 1), for the first n of i
  splits_le : (q n : ℕ) → n ≤ q
      → 2 * sum n (λ i. between i (q + 1) (λ j. pair_firings g (known g w) i j (q + 1))) + n * n * pair_rule_count g ≤ (2 * q * n + n) * pair_rule_count g
  unfolding sum
  splits_le q zero h = omega arith
  splits_le q (suc n) h =
      number (between n (q + 1) (λ j. pair_firings g (known g w) n j (q + 1))) (sum n (λ i. between i (q + 1) (λ j. pair_firings g (known g w) i j (q + 1)))) q n (pair_rule_count g) (q + 1 - (n + 1))
      (omega arith) (between_le n (q + 1) (pair_rule_count g) (λ j. pair_firings g (known g w) n j (q + 1)) (λ j a b. pair_le n j (q + 1))) (splits_le q n (omega arith))
    where
      number : (x s q n B d : ℕ) → d + n ≡ q → x ≤ d * B → 2 * s + n * n * B ≤ (2 * q * n + n) * B
          → 2 * (s + x) + suc n * suc n * B ≤ (2 * q * suc n + suc n) * B
      number x s q n B d e h l = rw (← e) (omega (arith, rw (← e) at l))

  splits_of : (q : ℕ) → 2 * sum q (λ i. between i (q + 1) (λ j. pair_firings g (known g w) i j (q + 1))) ≤ (q * q + q) * pair_rule_count g
  splits_of q = omega (arith, splits_le q q (omega arith))

  columns_le : Sound g → (n : ℕ) → 6 * sum n (λ q. column_firings g (get_or w q 0) (known g w) q) + n * pair_rule_count g ≤ 6 * (n * g.symbols) + n * n * n * pair_rule_count g
  unfolding sum column_firings cell_firings
  columns_le o zero = omega arith
  columns_le o (suc n) = omega (arith, columns_le o n, event_le g (get_or w n 0) o, splits_of n)

  pub firings_le : Sound g → firings g w (known g w) ≤ firings_bound (length w) g.symbols (pair_rule_count g)
  unfolding firings firings_bound
  firings_le o =
      sixth (sum (length w) (λ q. column_firings g (get_or w q 0) (known g w) q)) (length w) g.symbols (pair_rule_count g) (length w * length w * length w) (length w ^ 3 - length w)
      (cube (length w)) (columns_le o (length w))
    where
      sixth : (f n N B c d : ℕ) → c ≡ d + n → 6 * f + n * B ≤ 6 * (n * N) + c * B → f ≤ n * N + B * d / 6
      sixth f n N B c d e h = omega (arith, rw e at h)
