-- From the filler to the definitions: in a chart whose columns are filled, bit A of cell (i, k) is `known`, by induction on the stretch;
-- then its matches are the firings, and its one bits the items.
-- Assumes nothing.
use mathlib.Core.Path.{◌≡◌, sym, ap, ap₂, ◌∙◌, subst}
use mathlib.Core.Logic.{⊎_elim}
use mathlib.Core.List.{List}
use Prim.Native.Nat.{ℕ, zero, suc, ◌+◌, ◌-◌, ◌*◌, ◌≤◌, ◌<◌, min}
use native.Mathlib.Nat.{eq-or-lt_of_le}
use native.Mathlib.Omega.{arith}
use lib.ListN.{length, get_or}
use Rattle.bits.specs.Truth.{same}
use Rattle.bits.specs.Sum.{sum}
use Rattle.bits.specs.Bit.{bit}
use Rattle.bits.proofs.Sums.{sum_cong, sum_skip, between_cong}
use Rattle.derivation.specs.Grammar.{Grammar, pair_rule_count, pair_rule}
use Rattle.derivation.specs.Sound.{Sound}
use Rattle.derivation.specs.Derivations.{known}
use Rattle.derivation.specs.Chart.{cells, items, event_firings, pair_firings, cell_firings, column_firings, firings}
use Rattle.derivation.proofs.Counts.{known_one, known_more}
use Rattle.derivation.proofs.Cells.{known_high}
use Rattle.derivation.proofs.Columns.{sum_cells}
use Rattle.kernel.specs.Conclude.{hit, conclusions, leaf_conclusions}
use Rattle.columns.specs.Fill.{Columns, ones_to}
use Rattle.columns.specs.NewColumn.{rd, in_chart, cell_conclusions}

module _ (g : Grammar) (w c₀ c : List ℕ) (m : ℕ) (whole : Columns g w c₀ c (length w) m) where
  Shown : ℕ → ℕ → Type 0
  Shown i k = (A : ℕ) → bit (rd c i k) A ≡ known g w i k A

  -- the match of pair rule b over two cells is the product of its two premises
  hit_shows : (i j k b : ℕ) → Shown i j → Shown j k → hit g (rd c i j) (rd c j k) b ≡ known g w i j (pair_rule g b).left * known g w j k (pair_rule g b).right
  unfolding hit Shown
  hit_shows i j k b u v = ap₂ ◌*◌ (u (pair_rule g b).left) (v (pair_rule g b).right)

  cell_node : (i k : ℕ) → i + 1 < k → k ≤ length w → (A : ℕ) → bit (rd c i k) A ≡ min 1 (cell_conclusions g c i k A)
  cell_node i k h l =
      subst (λ (y : ℕ). (A : ℕ) → bit (rd c i y) A ≡ min 1 (cell_conclusions g c i y A)) (omega arith)
      ((whole.column (k - 1) (omega arith)).inner i (omega arith))

  node_shows : (i k : ℕ) → i + 1 < k → k ≤ length w → ((j : ℕ) → i < j → j < k → Shown i j × Shown j k) → Shown i k
  unfolding Shown cell_conclusions conclusions
  node_shows i k o l ih A =
      cell_node i k o l A
      ∙ ap (min 1) (between_cong i k _ _ (λ j s t. sum_cong (pair_rule_count g) _ _ (λ b h.
      ap (λ (y : ℕ). y * same (pair_rule g b).symbol A) (hit_shows i j k b (ih j s t).0 (ih j s t).1))))
      ∙ sym (known_more g w A i k o)

  leaf_shows : (i : ℕ) → i < length w → Shown i (i + 1)
  unfolding Shown leaf_conclusions
  leaf_shows i h A = (whole.column i h).leaf A ∙ sym (known_one g w A i h)

  shown : (f i k : ℕ) → k ≤ i + f → i < k → k ≤ length w → Shown i k
  shown zero i k h s l = absurd (omega arith)
  shown (suc f) i k h s l =
      let p : i + 1 ≤ k = omega arith in
      ⊎_elim (λ (e : i + 1 ≡ k). subst (Shown i) e (leaf_shows i (omega arith)))
      (λ (o : i + 1 < k). node_shows i k o l
      (λ j a b. (shown f i j (omega arith) a (omega arith), shown f j k (omega arith) b l)))
      (eq-or-lt_of_le p)

  -- bit A of cell (i, k)
  pub chart_shows : (A i k : ℕ) → i < k → k ≤ length w → bit (rd c i k) A ≡ known g w i k A
  unfolding Shown
  chart_shows A i k h l = shown k i k (omega arith) h l A

  -- what the words hold are the findings, over all stretches of the record
  found : (A i k : ℕ) → i < k → k ≤ length w → in_chart c i k A ≡ known g w i k A
  found A i k h l = chart_shows A i k h l

  -- so the matches are the firings
  column_is : (q : ℕ) → q < length w → column_firings g (get_or w q 0) (in_chart c) q ≡ column_firings g (get_or w q 0) (known g w) q
  unfolding column_firings cell_firings pair_firings
  column_is q h = ap (λ (x : ℕ). event_firings g (get_or w q 0) + x)
      (sum_cong q _ _ (λ i l. between_cong i (q + 1) _ _ (λ j a b. sum_cong (pair_rule_count g) _ _ (λ r o.
      ap₂ ◌*◌ (found _ i j a (omega arith)) (found _ j (q + 1) b (omega arith))))))

  pub firings_are : m ≡ firings g w (known g w)
  unfolding firings
  firings_are = whole.counted ∙ sum_cong (length w) _ _ column_is

  -- and the one bits the items
  module _ (ok : Sound g) where
    cell_is : (i k : ℕ) → i < k → k ≤ length w → sum 64 (bit (rd c i k)) ≡ sum g.symbols (known g w i k)
    cell_is i k h l =
        let n = ok.range.symbols in
        let e : 64 ≡ g.symbols + (64 - g.symbols) = omega arith in
        sum_cong 64 _ _ (λ A s. chart_shows A i k h l) ∙ ap (λ (n : ℕ). sum n (known g w i k)) e
        ∙ sum_skip g.symbols (64 - g.symbols) (known g w i k) (λ x s. known_high g w ok i k _ (omega arith))

    pub items_are : ones_to c (cells (length w)) ≡ items g.symbols (length w) (known g w)
    unfolding ones_to items
    items_are =
        sum_cells (length w) (λ y. sum 64 (bit (get_or c y 0)))
        ∙ sum_cong (length w) _ _ (λ q h. sum_cong (q + 1) _ _ (λ i l. cell_is i (q + 1) l (omega arith)))
