-- Cells and columns of the filler: what a cell depends on, a column from its last cell down, columns one after the other.
-- Assumes nothing.
use mathlib.Core.Path.{◌≡◌, refl, sym, ap, ap₂, ◌∙◌, subst}
use mathlib.Core.Logic.{⊎_elim}
use mathlib.Core.List.{List}
use Prim.Native.Nat.{ℕ, suc, ◌+◌, ◌-◌, ◌*◌, ◌≤◌, ◌<◌, min, zero-le}
use native.Mathlib.Nat.{le_refl, eq-or-lt_of_le, le_of_suc-le-suc, sub-zero, zero-add, add-zero}
use native.Mathlib.Numerals.{add-one}
use native.Mathlib.Omega.{arith}
use lib.ListN.{length, get_or, set, length-set}
use lib.Seq.{get_or-set_same, get_or-set_other}
use Rattle.bits.specs.Sum.{sum}
use Rattle.bits.specs.Bit.{bit}
use Rattle.bits.proofs.Sums.{sum_cong, sum_front, sum_more, between_cong}
use Rattle.derivation.specs.Grammar.{Grammar, pair_rule_count, pair_rule}
use Rattle.derivation.specs.Chart.{cells_before, cell_at, event_firings, pair_firings, cell_firings, column_firings}
use Rattle.derivation.proofs.Columns.{before_mono, cells_column, cells_more}
use Rattle.kernel.specs.declared.Fired.{Fired}
use Rattle.kernel.specs.Fire.{LeafFired}
use Rattle.kernel.specs.Conclude.{conclusions, leaf_conclusions}
use Rattle.columns.specs.Fill.{CellIs, CellFilled, Columns, ones_to}
use Rattle.columns.specs.NewColumn.{rd, in_chart, cell_conclusions, Column, ColumnFilled}

-- ---- one word more
pub ones_more : (c : List ℕ) (n : ℕ) → ones_to c (n + 1) ≡ ones_to c n + sum 64 (bit (get_or c n 0))
unfolding ones_to
ones_more c n = sum_more n _

module _ (g : Grammar) where
  -- the word is stored
  pub cell_stored : (c : List ℕ) (i k at : ℕ) (f : Fired) → at ≡ cell_at i k → at < length c → CellIs g c i k f
      → CellFilled g i k c (set c at f.word) f.count
  cell_stored c i k at f e h p = record {
    long = length-set c at f.word;
    other = λ y n. get_or-set_other c at y f.word 0 (λ q. n (q ∙ e));
    cell = record {
      word = λ A. ap (λ (x : ℕ). bit x A) (ap (λ (y : ℕ). get_or (set c at f.word) y 0) (sym e) ∙ get_or-set_same c at f.word 0 h) ∙ p.word A;
      count = p.count;
    };
  }

  -- ---- a cell reads columns below its own, and cells above it in its own
  module _ (c d : List ℕ) (i k : ℕ)
      (low : (y : ℕ) → y < cells_before k → get_or c y 0 ≡ get_or d y 0)
      (high : (y : ℕ) → cell_at i k < y → y < cells_before k + k → get_or c y 0 ≡ get_or d y 0) where
    same_left : (j : ℕ) → i < j → j < k → rd c i j ≡ rd d i j
    same_left j a b = low _ (omega (arith, before_mono j k b))

    same_right : (j : ℕ) → i < j → j < k → rd c j k ≡ rd d j k
    same_right j a b = high _ (omega arith) (omega arith)

    pub conclusions_stay : (A : ℕ) → cell_conclusions g c i k A ≡ cell_conclusions g d i k A
    unfolding cell_conclusions
    conclusions_stay A = between_cong i k _ _ (λ j a b. ap₂ (λ (x y : ℕ). conclusions g x y A) (same_left j a b) (same_right j a b))

    pub hits_stay : cell_firings g (in_chart c) i k ≡ cell_firings g (in_chart d) i k
    unfolding cell_firings pair_firings
    hits_stay = between_cong i k _ _ (λ j a b. ap₂ (λ (x y : ℕ). sum (pair_rule_count g) (λ r. bit x (pair_rule g r).left * bit y (pair_rule g r).right)) (same_left j a b) (same_right j a b))

  -- ---- a column, filled from its last cell down to cell i, n its firings so far
  pub record Part (e : ℕ) (c₀ c : List ℕ) (q i n : ℕ) : Type 0 where
    pub long : length c ≡ length c₀
    pub low : (y : ℕ) → y < cell_at i (q + 1) → get_or c y 0 ≡ get_or c₀ y 0
    pub past : (y : ℕ) → cell_at q (q + 1) < y → get_or c y 0 ≡ get_or c₀ y 0
    pub leaf : (A : ℕ) → bit (rd c q (q + 1)) A ≡ min 1 (leaf_conclusions g e A)
    pub inner : (x : ℕ) → i ≤ x → x < q → (A : ℕ) → bit (rd c x (q + 1)) A ≡ min 1 (cell_conclusions g c x (q + 1) A)
    pub counted : n ≡ event_firings g e + sum (q - i) (λ x. cell_firings g (in_chart c) (i + x) (q + 1))

  pub part_start : (e q at : ℕ) (c : List ℕ) (f : Fired) → at ≡ cell_at q (q + 1) → at < length c → LeafFired g e f
      → Part e (set c at f.word) (set c at f.word) q q f.count
  unfolding sum
  part_start e q at c f z h p = record {
    long = refl;
    low = λ y g. refl;
    past = λ y g. refl;
    leaf = λ A. ap (λ (x : ℕ). bit x A) (ap (λ (y : ℕ). get_or (set c at f.word) y 0) (sym z) ∙ get_or-set_same c at f.word 0 h) ∙ p.word A;
    inner = λ x g k. absurd (omega arith);
    counted = let y : q - q ≡ 0 = omega arith in rw y (p.count ∙ sym (add-zero _));
  }

  module _ (e q i j n m : ℕ) (c₀ c d : List ℕ) (was : Part e c₀ c q i n) (f : CellFilled g j (q + 1) c d m) (s : i ≡ j + 1) (b : i ≤ q) where
    kept_low : (y : ℕ) → y < cells_before (q + 1) → get_or c y 0 ≡ get_or d y 0
    kept_low y l = sym (f.other y (λ z. omega arith))

    conclusions_kept : (x : ℕ) → j ≤ x → (A : ℕ) → cell_conclusions g c x (q + 1) A ≡ cell_conclusions g d x (q + 1) A
    conclusions_kept x h = conclusions_stay c d x (q + 1) kept_low (λ y l o. sym (f.other y (λ z. omega arith)))

    hits_kept : (x : ℕ) → j ≤ x → cell_firings g (in_chart c) x (q + 1) ≡ cell_firings g (in_chart d) x (q + 1)
    hits_kept x h = hits_stay c d x (q + 1) kept_low (λ y l o. sym (f.other y (λ z. omega arith)))

    here : (A : ℕ) → bit (rd d j (q + 1)) A ≡ min 1 (cell_conclusions g d j (q + 1) A)
    here A = f.cell.word A ∙ ap (min 1) (conclusions_kept j (le_refl j) A)

    total : sum (q - j) (λ x. cell_firings g (in_chart d) (j + x) (q + 1)) ≡ cell_firings g (in_chart c) j (q + 1) + sum (q - i) (λ x. cell_firings g (in_chart c) (i + x) (q + 1))
    total =
        let z : q - j ≡ suc (q - i) = omega arith in
        ap (λ (m : ℕ). sum m (λ x. cell_firings g (in_chart d) (j + x) (q + 1))) z ∙ sum_front (q - i) _
        ∙ ap₂ ◌+◌
        (ap (λ (y : ℕ). cell_firings g (in_chart d) y (q + 1)) (add-zero j) ∙ sym (hits_kept j (le_refl j)))
        (sum_cong (q - i) _ _ (λ x h. ap (λ (y : ℕ). cell_firings g (in_chart d) y (q + 1)) (omega arith) ∙ sym (hits_kept (i + x) (omega arith))))

    pub part_step : Part e c₀ d q j (n + m)
    part_step = record {
      long = f.long ∙ was.long;
      low = λ y h. f.other y (λ z. omega arith) ∙ was.low y (omega arith);
      past = λ y h. f.other y (λ z. omega arith) ∙ was.past y h;
      leaf = λ A. ap (λ (x : ℕ). bit x A) (f.other _ (λ z. omega arith)) ∙ was.leaf A;
      inner = λ x h l. ⊎_elim
          (λ (z : j ≡ x). subst (λ (y : ℕ). (A : ℕ) → bit (rd d y (q + 1)) A ≡ min 1 (cell_conclusions g d y (q + 1) A)) z here)
          (λ (o : j < x). λ A. ap (λ (y : ℕ). bit y A) (f.other _ (λ z. omega arith)) ∙ was.inner x (omega arith) l A ∙ ap (min 1) (conclusions_kept x h A))
          (eq-or-lt_of_le h);
      counted = omega (arith, total, was.counted, f.cell.count);
    }

  -- all of it, from the chart before the leaf was stored
  pub part_done : (e q n at w : ℕ) (c₀ c : List ℕ) → at ≡ cell_at q (q + 1) → Part e (set c₀ at w) c q 0 n → ColumnFilled g e c₀ c q n
  unfolding column_firings
  part_done e q n at w c₀ c a r = record {
    column = record { leaf = r.leaf; inner = λ x h. r.inner x zero-le h };
    counted = r.counted ∙ ap (λ (x : ℕ). event_firings g e + x)
        (ap (λ (m : ℕ). sum m (λ x. cell_firings g (in_chart c) (0 + x) (q + 1))) (sub-zero q)
        ∙ sum_cong q _ _ (λ x h. ap (λ (y : ℕ). cell_firings g (in_chart c) y (q + 1)) (zero-add x)));
    frame = record {
      long = r.long ∙ length-set c₀ at w;
      before = λ y h. r.low y h ∙ get_or-set_other c₀ at y w 0 (λ z. omega arith);
      after = λ y h. r.past y (omega arith) ∙ get_or-set_other c₀ at y w 0 (λ z. omega arith);
    };
  }

  -- ---- a column depends on no later word
  module _ (e q : ℕ) (c d : List ℕ) (agree : (y : ℕ) → y < cells_before (q + 1) + (q + 1) → get_or c y 0 ≡ get_or d y 0) where
    column_stays : Column g e c q → Column g e d q
    column_stays r = record {
      leaf = λ A. ap (λ (x : ℕ). bit x A) (sym (agree _ (omega arith))) ∙ r.leaf A;
      inner = λ i h A. ap (λ (x : ℕ). bit x A) (sym (agree _ (omega arith))) ∙ r.inner i h A
          ∙ ap (min 1) (conclusions_stay c d i (q + 1) (λ y b. agree y (omega arith)) (λ y a b. agree y b) A);
    }

    pub firings_stay : column_firings g e (in_chart c) q ≡ column_firings g e (in_chart d) q
    unfolding column_firings
    firings_stay = ap (λ (x : ℕ). event_firings g e + x)
        (sum_cong q _ _ (λ i h. hits_stay c d i (q + 1) (λ y b. agree y (omega arith)) (λ y a b. agree y b)))

  -- ---- columns one after the other
  pub columns_start : (w c : List ℕ) → Columns g w c c 0 0
  unfolding sum
  columns_start w c = record { column = λ q h. absurd (omega arith); counted = refl; past = λ y h. refl }

  -- of the events only those of the columns count
  pub columns_along : (w v c₀ c : List ℕ) (n m : ℕ) → ((q : ℕ) → q < n → get_or w q 0 ≡ get_or v q 0) → Columns g w c₀ c n m → Columns g v c₀ c n m
  columns_along w v c₀ c n m same r = record {
    column = λ q h. subst (λ (e : ℕ). Column g e c q) (same q h) (r.column q h);
    counted = r.counted ∙ sum_cong n _ _ (λ q h. ap (λ (e : ℕ). column_firings g e (in_chart c) q) (same q h));
    past = r.past;
  }

  module _ (w c₀ c d : List ℕ) (n m x : ℕ) (r : Columns g w c₀ c n m) (f : ColumnFilled g (get_or w n 0) c d n x) where
    agrees : (q : ℕ) → q < n → (y : ℕ) → y < cells_before (q + 1) + (q + 1) → get_or c y 0 ≡ get_or d y 0
    agrees q o y b = sym (f.frame.before y (omega (arith, before_mono (q + 1) (n + 1) (omega arith))))

    pub columns_step : Columns g w c₀ d (n + 1) (m + x)
    columns_step = record {
      column = λ q h. ⊎_elim
          (λ (z : q ≡ n). subst (λ (y : ℕ). Column g (get_or w y 0) d y) (sym z) f.column)
          (λ (o : q < n). column_stays _ q c d (agrees q o) (r.column q o))
          (eq-or-lt_of_le (le_of_suc-le-suc (rw (add-one n) at h)));
      counted = rw sum_more (ap₂ ◌+◌
          (r.counted ∙ sum_cong n _ _ (λ q o. firings_stay _ q c d (agrees q o))) f.counted);
      past = λ y h. f.frame.after y (omega (arith, cells_more n, cells_column n)) ∙ r.past y (omega (arith, cells_more n));
    }
