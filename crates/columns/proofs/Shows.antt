-- The marks of the chart: a cell that is stored and marked is shown, what the pair rules make of the marks of a cell's row and column is
-- the cell, and a column whose event makes no symbol is empty.
-- Assumes nothing.
use mathlib.Core.Path.{◌≡◌, sym, ap, ◌∙◌}
use mathlib.Core.Logic.{◌⊎◌, inl, inr, ⊎_elim}
use mathlib.Core.List.{List}
use Prim.Native.Nat.{ℕ, ◌+◌, ◌*◌, ◌≤◌, ◌<◌, min}
use native.Mathlib.Nat.{mul-one, mul-zero, zero-mul, add-zero, eq-or-lt_of_le}
use native.Mathlib.Omega.{arith}
use lib.ListN.{length, get_or, set, length-set}
use lib.Seq.{get_or-set_same, get_or-set_other}
use Rattle.bits.specs.Truth.{same}
use Rattle.bits.specs.Sum.{sum, between}
use Rattle.bits.specs.Frame.{Framed, Zeros}
use Rattle.bits.specs.Bit.{bit}
use Rattle.bits.proofs.Bits.{bit_of_zero}
use Rattle.bits.proofs.Sums.{sum_cong, sum_zero, between_zero, between_cong, between_swap, between_scale}
use Rattle.derivation.specs.Grammar.{Grammar, pair_rule_count, pair_rule}
use Rattle.derivation.specs.Chart.{cells_before, cell_at, event_firings, pair_firings, cell_firings, column_firings}
use Rattle.derivation.proofs.Columns.{before_mono}
use Rattle.marks.specs.Mark.{meetings}
use Rattle.marks.specs.Shown.{Filled, Lefts, Rights, Shown, CellMarked}
use Rattle.marks.proofs.Shows.{met_between, shown_step, shown_empty}
use Rattle.kernel.specs.declared.Fired.{Fired}
use Rattle.kernel.specs.Fire.{met, Met, LeafFired}
use Rattle.kernel.specs.Conclude.{hit, conclusions}
use Rattle.columns.specs.Fill.{CellIs}
use Rattle.columns.specs.NewColumn.{rd, in_chart, cell_conclusions, ColumnFilled}

-- a cell that is stored changes no other
pub shown_stored : (c t v u x : List ℕ) (i k at w : ℕ) → i < k → at ≡ cell_at i k → at < length c → CellMarked t v u x i k w
    → Shown 64 (in_chart c) t u (i + 1) k → Shown 64 (in_chart (set c at w)) v x i k
shown_stored c t v u x i k at w inside e h marked =
    shown_step 64 (in_chart c) (in_chart (set c at w)) i k w inside (λ a s. ap (λ (y : ℕ). bit y a) is) (λ y j a l f s. ap (λ (z : ℕ). bit z a) (elsewhere y j l f)) t v u x marked
  where
    is : w ≡ rd (set c at w) i k
    is = sym (ap (λ (y : ℕ). get_or (set c at w) y 0) (sym e) ∙ get_or-set_same c at w 0 h)

    elsewhere : (y j : ℕ) → y < j → (j < k) ⊎ ((j ≡ k) × (i < y)) → rd (set c at w) y j ≡ rd c y j
    elsewhere y j l (inl o) = get_or-set_other c at _ w 0 (λ q. omega (arith, q, e, before_mono j k o))
    elsewhere y j l (inr o) = get_or-set_other c at _ w 0 (λ q. omega (arith, q, e, ap cells_before o.0, o.1))

module _ (g : Grammar) (c t u : List ℕ) (i k : ℕ) (inside : i < k) (rows : Lefts 64 (in_chart c) t (i + 1) k) (cols : Rights 64 (in_chart c) u (i + 1) k)
    (fits : (b : ℕ) → b < pair_rule_count g → ((pair_rule g b).left < 64) × ((pair_rule g b).right < 64)) where
  meetings_are : (a b : ℕ) → a < 64 → b < 64 → meetings t i a u b ≡ between i k (λ j. bit (rd c i j) a * bit (rd c j k) b)
  unfolding meetings
  meetings_are a b l h =
      sum_cong 128 _ _ (λ j o. sym (mul-one _)) ∙ met_between 64 (in_chart c) t u i k inside rows cols a b l h (λ j. 1)
      ∙ between_cong i k _ _ (λ j o p. mul-one _)

  met_are : (b : ℕ) → b < pair_rule_count g → met g t i u b ≡ between i k (λ j. hit g (rd c i j) (rd c j k) b)
  unfolding met hit
  met_are b l = meetings_are _ _ (fits b l).0 (fits b l).1

  pub cell_met : (f : Fired) → Met g t i u f → CellIs g c i k f
  unfolding cell_firings pair_firings cell_conclusions conclusions hit
  cell_met f m = record {
    word = λ A. m.word A ∙ ap (min 1)
        (sum_cong (pair_rule_count g) _ _ (λ b l. ap (λ (y : ℕ). y * same (pair_rule g b).symbol A) (met_are b l) ∙ sym (between_scale i k _ _))
        ∙ sym (between_swap i k (pair_rule_count g) (λ j b. hit g (rd c i j) (rd c j k) b * same (pair_rule g b).symbol A)));
    count = m.count ∙ sum_cong (pair_rule_count g) _ _ met_are ∙ sym (between_swap i k (pair_rule_count g) (λ j b. hit g (rd c i j) (rd c j k) b));
  }

-- ---- a column of empty cells
module _ (g : Grammar) (e q at : ℕ) (c d : List ℕ) (f : Fired) (is : at ≡ cell_at q (q + 1)) (here : at < length c) (leaf : LeafFired g e f)
    (none : f.word ≡ 0) (frame : Framed (set c at f.word) d (cell_at 0 (q + 1)) q) (zeros : Zeros d (cell_at 0 (q + 1)) q) where
  top : rd d q (q + 1) ≡ 0
  top =
      frame.after _ (omega arith) ∙ ap (λ (y : ℕ). get_or (set c at f.word) y 0) (sym is) ∙ get_or-set_same c at f.word 0 here ∙ none

  empty : (i : ℕ) → i ≤ q → rd d i (q + 1) ≡ 0
  empty i l = ⊎_elim (λ (z : i ≡ q). rw z top)
      (λ (o : i < q). ap (λ (y : ℕ). get_or d y 0) (omega arith) ∙ zeros.at i o) (eq-or-lt_of_le l)

  -- no rule has its right part
  no_hit : (u b : ℕ) → hit g u 0 b ≡ 0
  unfolding hit
  no_hit u b = ap (λ (x : ℕ). bit u (pair_rule g b).left * x) (bit_of_zero (pair_rule g b).right) ∙ mul-zero _

  no_hits : (i : ℕ) → cell_firings g (in_chart d) i (q + 1) ≡ 0
  unfolding cell_firings pair_firings hit
  no_hits i = between_cong i (q + 1) _ (λ j. 0) (λ j a b.
      ap (λ (x : ℕ). sum (pair_rule_count g) (hit g (rd d i j) x)) (empty j (omega arith)) ∙ sum_zero (pair_rule_count g) _ (λ b l. no_hit _ b)) ∙ between_zero i (q + 1)

  no_conclusions : (i A : ℕ) → cell_conclusions g d i (q + 1) A ≡ 0
  unfolding cell_conclusions conclusions
  no_conclusions i A = between_cong i (q + 1) _ (λ j. 0) (λ j a b.
      ap (λ (x : ℕ). sum (pair_rule_count g) (λ b. hit g (rd d i j) x b * same (pair_rule g b).symbol A)) (empty j (omega arith))
      ∙ sum_zero (pair_rule_count g) _ (λ b l. ap (λ (x : ℕ). x * same (pair_rule g b).symbol A) (no_hit _ b) ∙ zero-mul _)) ∙ between_zero i (q + 1)

  pub column_empty : ColumnFilled g e c d q f.count
  unfolding column_firings
  column_empty = record {
    column = record {
      leaf = λ A. ap (λ (x : ℕ). bit x A) (top ∙ sym none) ∙ leaf.word A;
      inner = λ i l A. ap (λ (x : ℕ). bit x A) (empty i (omega arith)) ∙ bit_of_zero A ∙ ap (min 1) (sym (no_conclusions i A));
    };
    counted = leaf.count ∙ sym (ap (λ (x : ℕ). event_firings g e + x) (sum_zero q _ (λ i l. no_hits i)) ∙ add-zero _);
    frame = record {
      long = frame.long ∙ length-set c at f.word;
      before = λ y l. frame.before y l ∙ get_or-set_other c at y f.word 0 (λ z. omega arith);
      after = λ y l. frame.after y (omega arith) ∙ get_or-set_other c at y f.word 0 (λ z. omega arith);
    };
  }

  pub column_shown : (t u : List ℕ) → Shown 64 (in_chart (set c at f.word)) t u q (q + 1) → Shown 64 (in_chart d) t u 0 (q + 1)
  column_shown t u = shown_empty 64 (in_chart (set c at f.word)) (in_chart d) t u q (q + 1) (omega arith)
      (λ x a l s. ap (λ (y : ℕ). bit y a) (empty x (omega arith)) ∙ bit_of_zero a) (λ x j a l o s. ap (λ (y : ℕ). bit y a) (elsewhere x j l o))
    where
      elsewhere : (x j : ℕ) → x < j → Filled q (q + 1) x j → rd d x j ≡ rd (set c at f.word) x j
      elsewhere x j l (inl o) = frame.before _ (omega (arith, before_mono j (q + 1) o))
      elsewhere x j l (inr o) = frame.after _ (omega (arith, ap cells_before o.0, o.1))
