-- One outcome only of a column: cell after cell, from the last down, each word is fixed by the older columns and the cells behind it. Of the older
-- columns only the symbols of the grammar count.
-- Assumes nothing.
use mathlib.Core.Path.{◌≡◌, sym, ap, ap₂, ◌∙◌}
use mathlib.Core.Logic.{⊎_elim}
use mathlib.Core.List.{List}
use Prim.Native.Nat.{ℕ, zero, suc, ◌+◌, ◌-◌, ◌*◌, ◌≤◌, ◌<◌, min}
use native.Mathlib.Nat.{eq-or-lt_of_le, mul-zero}
use native.Mathlib.Omega.{arith}
use lib.ListN.{get_or}
use Rattle.bits.specs.Bit.{bit}
use Rattle.bits.specs.Truth.{same}
use Rattle.bits.proofs.Frames.{around}
use Rattle.bits.proofs.Sums.{sum_cong, sum_zero, between_cong, between_zero}
use Rattle.bits.proofs.Truths.{same_other}
use Rattle.bits.proofs.Words.{same_bits}
use Rattle.derivation.specs.Grammar.{Grammar, event_rule_count, pair_rule_count, event_rule, pair_rule}
use Rattle.derivation.specs.Sound.{Sound}
use Rattle.derivation.specs.Chart.{cells_before, cell_at, event_firings, pair_firings, cell_firings, column_firings}
use Rattle.derivation.proofs.Sound.{leaf_fits_is, pair_fits_at}
use Rattle.kernel.specs.Conclude.{hit, conclusions, leaf_conclusions}
use Rattle.columns.specs.NewColumn.{rd, in_chart, cell_conclusions, Column, ColumnFilled}
use Rattle.columns.proofs.Fills.{conclusions_stay, firings_stay}

-- ---- two columns whose cells conclude the same where the cells behind them are the same
module _ (g : Grammar) (e : ℕ) (c d : List ℕ) (q : ℕ) (p : Column g e c q) (r : Column g e d q)
    (alike : (i : ℕ) → i < q → ((x : ℕ) → i < x → x ≤ q → rd c x (q + 1) ≡ rd d x (q + 1))
    → (A : ℕ) → cell_conclusions g c i (q + 1) A ≡ cell_conclusions g d i (q + 1) A) where
  leaf_same : rd c q (q + 1) ≡ rd d q (q + 1)
  leaf_same = same_bits _ _ (λ A. p.leaf A ∙ sym (r.leaf A))

  -- the last t cells and one more, for any t
  last_same : (t x : ℕ) → x ≤ q → q ≤ x + t → rd c x (q + 1) ≡ rd d x (q + 1)
  last_same zero x l o = let z : x ≡ q = omega arith in rw z leaf_same
  last_same (suc t) x l o = ⊎_elim (λ (z : x ≡ q). rw z leaf_same)
      (λ (s : x < q). same_bits _ _ (λ A.
      p.inner x s A ∙ ap (min 1) (alike x s (λ y a b. last_same t y b (omega arith)) A) ∙ sym (r.inner x s A)))
      (eq-or-lt_of_le l)

  cells_same : (x : ℕ) → x ≤ q → rd c x (q + 1) ≡ rd d x (q + 1)
  cells_same x l = last_same q x l (omega arith)

-- ---- over the same words
module _ (g : Grammar) (e : ℕ) (before c d : List ℕ) (q n m : ℕ) (f : ColumnFilled g e before c q n) (h : ColumnFilled g e before d q m) where
  same_low : (y : ℕ) → y < cells_before (q + 1) → get_or c y 0 ≡ get_or d y 0
  same_low y l = f.frame.before y (omega arith) ∙ sym (h.frame.before y (omega arith))

  alike : (i : ℕ) → i < q → ((x : ℕ) → i < x → x ≤ q → rd c x (q + 1) ≡ rd d x (q + 1))
      → (A : ℕ) → cell_conclusions g c i (q + 1) A ≡ cell_conclusions g d i (q + 1) A
  alike i l behind = conclusions_stay g c d i (q + 1) same_low at
    where
      at : (y : ℕ) → cell_at i (q + 1) < y → y < cells_before (q + 1) + (q + 1) → get_or c y 0 ≡ get_or d y 0
      at y a b =
          let z : cells_before (q + 1) + (y - cells_before (q + 1)) ≡ y = omega arith in
          rw z at (behind (y - cells_before (q + 1)) (omega arith) (omega arith))

  every_same : (y : ℕ) → get_or c y 0 ≡ get_or d y 0
  every_same = around c d (cells_before (q + 1)) (q + 1) same_low (λ x l. cells_same g e c d q f.column h.column alike x (omega arith))
      (λ y l. f.frame.after y (omega arith) ∙ sym (h.frame.after y (omega arith)))

  -- every word, and the firings
  pub column_only : ((y : ℕ) → get_or c y 0 ≡ get_or d y 0) × (n ≡ m)
  column_only = (every_same, f.counted ∙ firings_stay g e q c d (λ y l. every_same y) ∙ sym h.counted)

-- ---- over words that hold the same symbols of the grammar
module _ (g : Grammar) (ok : Sound g) where
  module _ (e : ℕ) (c d : List ℕ) (q : ℕ) (p : Column g e c q) (r : Column g e d q)
      (held : (i k A : ℕ) → i < k → k ≤ q → A < g.symbols → bit (rd c i k) A ≡ bit (rd d i k) A) where
    module _ (i : ℕ) (l : i < q) (behind : (x : ℕ) → i < x → x ≤ q → rd c x (q + 1) ≡ rd d x (q + 1)) where
      hit_alike : (j : ℕ) → i < j → j < q + 1 → (b : ℕ) → b < pair_rule_count g → hit g (rd c i j) (rd c j (q + 1)) b ≡ hit g (rd d i j) (rd d j (q + 1)) b
      unfolding hit
      hit_alike j a o b s = ap₂ ◌*◌ (held i j _ a (omega arith) (pair_fits_at g ok b s).left) (ap (λ (x : ℕ). bit x (pair_rule g b).right) (behind j a (omega arith)))

      conclusions_alike : (A : ℕ) → cell_conclusions g c i (q + 1) A ≡ cell_conclusions g d i (q + 1) A
      unfolding cell_conclusions conclusions
      conclusions_alike A = between_cong i (q + 1) _ _ (λ j a o. sum_cong (pair_rule_count g) _ _ (λ b s.
          ap (λ (x : ℕ). x * same (pair_rule g b).symbol A) (hit_alike j a o b s)))

      hits_alike : cell_firings g (in_chart c) i (q + 1) ≡ cell_firings g (in_chart d) i (q + 1)
      unfolding cell_firings pair_firings hit
      hits_alike = between_cong i (q + 1) _ _ (λ j a o. sum_cong (pair_rule_count g) _ _ (λ b s. hit_alike j a o b s))

    pub symbols_decide : (x : ℕ) → x ≤ q → rd c x (q + 1) ≡ rd d x (q + 1)
    symbols_decide = cells_same g e c d q p r conclusions_alike

    pub symbols_fire : column_firings g e (in_chart c) q ≡ column_firings g e (in_chart d) q
    unfolding column_firings
    symbols_fire = ap (λ (x : ℕ). event_firings g e + x) (sum_cong q _ _ (λ i l. hits_alike i l (λ x a o. symbols_decide x o)))

  -- no cell of a column has another symbol
  module _ (e : ℕ) (c : List ℕ) (q A : ℕ) (p : Column g e c q) (high : g.symbols ≤ A) where
    no_leaf : leaf_conclusions g e A ≡ 0
    unfolding leaf_conclusions
    no_leaf = sum_zero (event_rule_count g) _ (λ r l. ap (λ (x : ℕ). same (event_rule g r).event e * x) (same_other _ A (λ z. omega (arith, leaf_fits_is g ok r l))) ∙ mul-zero _)

    no_pair : (i : ℕ) → cell_conclusions g c i (q + 1) A ≡ 0
    unfolding cell_conclusions conclusions
    no_pair i = between_cong i (q + 1) _ (λ j. 0) (λ j a o. sum_zero (pair_rule_count g) _ (λ b l.
        ap (λ (x : ℕ). hit g (rd c i j) (rd c j (q + 1)) b * x) (same_other _ A (λ z. omega (arith, (pair_fits_at g ok b l).symbol))) ∙ mul-zero _)) ∙ between_zero i (q + 1)

    pub no_other_symbol : (i : ℕ) → i ≤ q → bit (rd c i (q + 1)) A ≡ 0
    no_other_symbol i l = ⊎_elim (λ (z : i ≡ q). rw z (p.leaf A ∙ ap (min 1) no_leaf))
        (λ (s : i < q). p.inner i s A ∙ ap (min 1) (no_pair i)) (eq-or-lt_of_le l)
