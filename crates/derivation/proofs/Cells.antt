-- The cells and the items: bit A of a cell tells whether [A, i, k] is derivable, and the items are those that are.
-- Assumes nothing.
use mathlib.Core.Path.{◌≡◌, sym, ap, ap₂, subst⁻¹}
use mathlib.Core.List.{List}
use Prim.Native.Nat.{ℕ, ◌+◌, ◌*◌, ◌^◌, ◌≤◌, ◌<◌}
use native.Mathlib.Decide.{dec_lt}
use native.Mathlib.Omega.{arith}
use lib.ListN.{length, get_or}
use lib.Count.{ones}
use Rattle.bits.specs.Sum.{sum}
use Rattle.bits.specs.Bit.{bit}
use Rattle.bits.proofs.Sums.{sum_cong, between_cong}
use Rattle.bits.proofs.Bits.{bit_high}
use Rattle.bits.proofs.Words.{word_lt, word_bit, word_ones}
use Rattle.derivation.specs.Grammar.{Grammar, pair_rule_count, pair_rule}
use Rattle.derivation.specs.Sound.{Sound}
use Rattle.derivation.specs.Numbering.{Tells, Telling}
use Rattle.derivation.specs.Derivations.{known}
use Rattle.derivation.specs.Chart.{Findings, cell, items, event_firings, pair_firings, cell_firings, column_firings, firings}
use Rattle.derivation.proofs.Sound.{derives_fits}
use Rattle.derivation.proofs.Counts.{known_lt}
use Rattle.derivation.proofs.Numbering.{known_tells, telling_only}

module _ (g : Grammar) (w : List ℕ) where
  pub cell_lt : (i k : ℕ) → cell g.symbols (known g w) i k < 2 ^ g.symbols
  unfolding cell
  cell_lt i k = word_lt (known g w i k) (λ A. known_lt g w A i k) g.symbols

  pub cell_bit : (i k A : ℕ) → A < g.symbols → bit (cell g.symbols (known g w) i k) A ≡ known g w i k A
  unfolding cell
  cell_bit i k A h = word_bit (known g w i k) (λ A. known_lt g w A i k) g.symbols A h

  -- bits from N up are zero
  pub cell_high : (i k A : ℕ) → g.symbols ≤ A → bit (cell g.symbols (known g w) i k) A ≡ 0
  cell_high i k A h = bit_high g.symbols (cell g.symbols (known g w) i k) A (cell_lt i k) h

  -- no symbol from N up is derivable
  pub known_high : Sound g → (i k A : ℕ) → g.symbols ≤ A → known g w i k A ≡ 0
  known_high s i k A h = (known_tells g w A i k).no (λ d. omega (arith, derives_fits g s w A i k d.0 d.1))

  -- of a sound grammar a bit is one exactly when its symbol is derivable, whatever the symbol
  pub cell_tells : Sound g → (i k A : ℕ) → Tells g w A i k (bit (cell g.symbols (known g w) i k) A)
  cell_tells s i k A =
      elim (dec_lt A g.symbols) [
        | yes l ↦ subst⁻¹ (Tells g w A i k) (cell_bit i k A l) (known_tells g w A i k)
        | no l ↦ record { yes = λ d. absurd (l (derives_fits g s w A i k d.0 d.1)); no = λ _. cell_high i k A (omega arith) }
      ]

  pub cell_ones : (i k : ℕ) → ones (cell g.symbols (known g w) i k) ≡ sum g.symbols (known g w i k)
  unfolding cell
  cell_ones i k = word_ones (known g w i k) (λ A. known_lt g w A i k) g.symbols

  -- the items are the one bits of the cells
  pub items_ones : items g.symbols (length w) (known g w) ≡ sum (length w) (λ q. sum (q + 1) (λ i. ones (cell g.symbols (known g w) i (q + 1))))
  unfolding items
  items_ones = sum_cong (length w) _ _ (λ q l. sum_cong (q + 1) _ _ (λ i m. sym (cell_ones i (q + 1))))

-- ---- whatever tells what is derivable finds the same
module _ (g : Grammar) (w : List ℕ) (s : Findings) (t : Telling g w s) where
  found : (i k A : ℕ) → s i k A ≡ known g w i k A
  found = telling_only g w s t

  pub cell_told : (i k : ℕ) → cell g.symbols s i k ≡ cell g.symbols (known g w) i k
  unfolding cell
  cell_told i k = sum_cong g.symbols _ _ (λ A l. ap (λ (x : ℕ). x * 2 ^ A) (found i k A))

  pub items_told : items g.symbols (length w) s ≡ items g.symbols (length w) (known g w)
  unfolding items
  items_told = sum_cong (length w) _ _ (λ q l. sum_cong (q + 1) _ _ (λ i m. sum_cong g.symbols _ _ (λ A o. found i (q + 1) A)))

  pub firings_told : firings g w s ≡ firings g w (known g w)
  unfolding firings column_firings cell_firings pair_firings
  firings_told =
      sum_cong (length w) _ _ (λ q l. ap (λ (x : ℕ). event_firings g (get_or w q 0) + x) (sum_cong q _ _ (λ i m.
      between_cong i (q + 1) _ _ (λ j a b. sum_cong (pair_rule_count g) _ _ (λ r o. ap₂ ◌*◌ (found i j (pair_rule g r).left) (found j (q + 1) (pair_rule g r).right))))))
