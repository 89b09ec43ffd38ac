-- A column filled split after split, from the last down. A right part is whole when it is pushed, because all its own splits lie behind it;
-- pushed into the cells before it, it changes neither itself nor a right part behind it.
-- Assumes nothing.
use mathlib.Core.Path.{◌≡◌, refl, sym, ap, ap₂, ◌∙◌}
use mathlib.Core.Logic.{⊎_elim}
use mathlib.Core.List.{List, [], ◌∷◌, ◌++◌}
use Prim.Native.Nat.{ℕ, zero, suc, ◌+◌, ◌-◌, ◌≤◌, ◌<◌, min, max}
use native.Mathlib.Nat.{le_refl, add-zero, max-zero, eq-or-lt_of_le, le_of_suc-le-suc}
use native.Mathlib.Numerals.{add-one}
use native.Mathlib.Omega.{arith}
use lib.Bits.{bit_or}
use lib.ListN.{length, get_or, set, take, drop}
use lib.Seq.{get_or-set_same, get_or-set_other, get_or-take, get_or-drop}
use Rattle.std.proofs.lemmas.List.{get_or-append_right, set-append_right}
use Rattle.std.specs.List.{fold}
use Rattle.bits.specs.Bit.{bit}
use Rattle.bits.specs.Frame.{Framed, Zeros}
use Rattle.bits.specs.Sum.{sum, between}
use Rattle.bits.proofs.Bits.{bit_or_is, bit_of_zero}
use Rattle.bits.proofs.Frames.{framed_none, framed_set, framed_wider, framed_on}
use Rattle.bits.proofs.Sums.{sum_more, sum_cong, sum_zero, sum_front, sum_split, sum_add, between_none, between_cong, some_join}
use Rattle.bits.proofs.Truths.{lt_or_ge}
use Rattle.derivation.specs.Grammar.{Grammar}
use Rattle.derivation.specs.Chart.{cell_at, event_firings, pair_firings, cell_firings, column_firings}
use Rattle.derivation.proofs.Columns.{before_mono}
use Rattle.kernel.specs.declared.Fired.{Fired}
use Rattle.kernel.specs.Fire.{hits, Concluded, LeafFired}
use Rattle.kernel.specs.Conclude.{hit, conclusions, leaf_conclusions}
use Rattle.kernel.specs.Apply.{Ready}
use Rattle.kernel.proofs.Pairs.{none_right}
use Rattle.kernel.proofs.Readies.{ready_part}
use Rattle.columns.specs.Fill.{Standing, Pushed}
use Rattle.columns.specs.NewColumn.{rd, cell_conclusions, ColumnFilled}

-- ---- sums
first_between : (p k : ℕ) (f : ℕ → ℕ) → p + 1 < k → between p k f ≡ f (p + 1) + between (p + 1) k f
unfolding between
first_between p k f l =
    let z : k - (p + 1) ≡ suc (k - (p + 1 + 1)) = omega arith in
    ap (λ (m : ℕ). sum m (λ x. f (p + 1 + x))) z ∙ sum_front (k - (p + 1 + 1)) (λ x. f (p + 1 + x))
    ∙ ap₂ ◌+◌ (ap f (add-zero (p + 1))) (sum_cong (k - (p + 1 + 1)) _ _ (λ x h. ap f (omega arith)))

-- the first j summands grow, the others stay
sum_grown : (n j : ℕ) (F H G : ℕ → ℕ) → j ≤ n → ((i : ℕ) → i < j → H i ≡ F i + G i) → ((i : ℕ) → j ≤ i → i < n → H i ≡ F i)
    → sum n H ≡ sum n F + sum j G
sum_grown n j F H G l grown stay =
    let z : n ≡ j + (n - j) = omega arith in
    let a = ap (λ (m : ℕ). sum m H) z ∙ sum_split j (n - j) H in
    let b = ap (λ (m : ℕ). sum m F) z ∙ sum_split j (n - j) F in
    let c = sum_cong j _ _ grown ∙ sum_add j F G in
    let d = sum_cong (n - j) (λ x. H (j + x)) (λ x. F (j + x)) (λ x h. stay (j + x) (omega arith) (omega arith)) in
    omega (arith, a, b, c, d)

-- ---- the symbols of a column
or_keeps : (words : List ℕ) (u A : ℕ) → bit u A ≤ bit (fold bit_or u words) A
or_keeps [] u A = le_refl (bit u A)
or_keeps (w ∷ words) u A = omega (arith, bit_or_is u w A, or_keeps words (bit_or u w) A)

or_has : (words : List ℕ) (u i A : ℕ) → i < length words → bit (get_or words i 0) A ≤ bit (fold bit_or u words) A
or_has [] u i A l = absurd (omega arith)
or_has (w ∷ words) u zero A l = omega (arith, bit_or_is u w A, or_keeps words (bit_or u w) A)
or_has (w ∷ words) u (suc i) A l = or_has words (bit_or u w) i A (le_of_suc-le-suc l)

pub standing_all : (words : List ℕ) → Standing words (fold bit_or 0 words)
standing_all words = record { among = λ i l A. or_has words 0 i A l }

-- the left parts lie side by side in an older column
pub left_at : (older c₀ : List ℕ) (first b j k i : ℕ) → older ≡ take b c₀ → first ≡ cell_at 0 j → b ≡ cell_at 0 k → i < j → j < k
    → get_or (take (first + j - first) (drop first older)) i 0 ≡ rd c₀ i j
left_at older c₀ first b j k i e z y inside short =
    get_or-take (first + j - first) (drop first older) i 0 (omega arith) ∙ get_or-drop first older i 0 ∙ ap (λ (l : List ℕ). get_or l (first + i) 0) e
    ∙ get_or-take b c₀ (first + i) 0 (omega (arith, before_mono j k short)) ∙ ap (λ (x : ℕ). get_or c₀ x 0) (omega arith)

module _ (g : Grammar) where
  -- ---- one split
  pub pushed_start : (j k : ℕ) (c : List ℕ) → Pushed g j k c c 0 0
  unfolding sum
  pushed_start j k c = record { frame = framed_none c (cell_at 0 k) 0; cell = λ i l. absurd (omega arith); counted = refl }

  -- an empty right part
  pub pushed_none : (j k : ℕ) (c : List ℕ) → rd c j k ≡ 0 → Pushed g j k c c j 0
  pushed_none j k c z = record {
    frame = framed_none c (cell_at 0 k) j;
    cell = λ i l. (nothing i).word;
    counted = sym (sum_zero j _ (λ i l. omega (arith, (nothing i).count)));
  }
    where
      nothing : (i : ℕ) → Concluded g (rd c i j) (rd c j k) (record { word = rd c i k; count = 0 }) (record { word = rd c i k; count = 0 })
      nothing i = none_right g (rd c i j) (rd c j k) z (record { word = rd c i k; count = 0 })

  pub left_ready : (words : List ℕ) (t : List Fired) (i u v : ℕ) → i < length words → Standing words u → Ready g v u t → Ready g v (get_or words i 0) t
  left_ready words t i u v inside all r = ready_part g v u (get_or words i 0) t (all.among i inside) r

  module _ (j k i n left : ℕ) (c₀ older column : List ℕ) (f : Fired) (inside : i < j) (long : length older ≡ cell_at 0 k) (here : i < length column)
      (is : left ≡ rd c₀ i j) (was : Pushed g j k c₀ (older ++ column) i n)
      (o : Concluded g left (rd c₀ j k) (record { word = get_or column i 0; count = n }) f) where
    -- the older columns stand before the words from this one on
    apart : cell_at i k - cell_at 0 k ≡ i
    apart = omega arith

    stored : set (older ++ column) (cell_at 0 k + i) f.word ≡ older ++ set column i f.word
    stored = set-append_right older column (cell_at 0 k) (cell_at 0 k + i) f.word long (omega arith) ∙ ap (λ (y : ℕ). older ++ set column y f.word) (omega arith)

    word_was : get_or column i 0 ≡ rd c₀ i k
    word_was =
        ap (λ (y : ℕ). get_or column y 0) (sym apart) ∙ sym (get_or-append_right older column (cell_at 0 k) (cell_at i k) 0 long (omega arith))
        ∙ was.frame.after (cell_at i k) (omega arith)

    word_now : rd (older ++ set column i f.word) i k ≡ f.word
    word_now =
        get_or-append_right older (set column i f.word) (cell_at 0 k) (cell_at i k) 0 long (omega arith)
        ∙ ap (λ (y : ℕ). get_or (set column i f.word) y 0) apart ∙ get_or-set_same column i f.word 0 here

    here_now : (A : ℕ) → bit (rd (older ++ set column i f.word) i k) A ≡ max (bit (rd c₀ i k) A) (min 1 (conclusions g (rd c₀ i j) (rd c₀ j k) A))
    here_now A =
        ap (λ (x : ℕ). bit x A) word_now
        ∙ o.word A ∙ ap₂ (λ (x y : ℕ). max (bit x A) (min 1 (conclusions g y (rd c₀ j k) A))) word_was is

    word_other : (x : ℕ) → x < i → rd (older ++ set column i f.word) x k ≡ rd (older ++ column) x k
    word_other x l = ap (λ (c : List ℕ). rd c x k) (sym stored) ∙ get_or-set_other (older ++ column) (cell_at 0 k + i) _ f.word 0 (λ e. omega arith)

    pub pushed_step : Pushed g j k c₀ (older ++ set column i f.word) (i + 1) f.count
    pushed_step = record {
      frame = rw stored at (framed_set c₀ (older ++ column) (cell_at 0 k) (i + 1) i f.word
          (framed_wider c₀ (older ++ column) (cell_at 0 k) i (i + 1) (omega arith) was.frame) (omega arith));
      cell = λ x l. ⊎_elim (λ (z : x ≡ i). rw z here_now)
          (λ (s : x < i). λ A. ap (λ (y : ℕ). bit y A) (word_other x s) ∙ was.cell x s A)
          (eq-or-lt_of_le (le_of_suc-le-suc (rw (add-one i) at l)));
      counted = o.count ∙ ap₂ ◌+◌ was.counted (ap (λ (y : ℕ). hits g y (rd c₀ j k)) is) ∙ sym (sum_more i _);
    }

  -- ---- the splits above p
  pub record Late (e : ℕ) (c₀ c : List ℕ) (q p n : ℕ) : Type 0 where
    pub frame : Framed c₀ c (cell_at 0 (q + 1)) (q + 1)
    pub leaf : (A : ℕ) → bit (rd c q (q + 1)) A ≡ min 1 (leaf_conclusions g e A)
    pub inner : (i : ℕ) → i < q → (A : ℕ) → bit (rd c i (q + 1)) A ≡ min 1 (between (max i p) (q + 1) (λ j. conclusions g (rd c i j) (rd c j (q + 1)) A))
    pub counted : n ≡ event_firings g e + sum q (λ i. between (max i p) (q + 1) (λ j. hits g (rd c i j) (rd c j (q + 1))))

  -- the event's own cell, the others cleared
  module _ (e q at : ℕ) (c₀ c : List ℕ) (f : Fired) (is : at ≡ cell_at q (q + 1)) (here : at < length c) (zeros : Zeros c (cell_at 0 (q + 1)) q)
      (frame : Framed c₀ c (cell_at 0 (q + 1)) q) (leaf : LeafFired g e f) where
    pub only_column : Framed c₀ (set c at f.word) (cell_at 0 (q + 1)) (q + 1)
    only_column =
        let z : cell_at 0 (q + 1) + q ≡ at = omega arith in
        rw z at (framed_set c₀ c (cell_at 0 (q + 1)) (q + 1) q f.word (framed_wider c₀ c (cell_at 0 (q + 1)) q (q + 1) (omega arith) frame) (omega arith))

    cleared : (i : ℕ) → i < q → rd (set c at f.word) i (q + 1) ≡ 0
    cleared i l = get_or-set_other c at _ f.word 0 (λ z. omega arith) ∙ ap (λ (y : ℕ). get_or c y 0) (omega arith) ∙ zeros.at i l

    pub late_start : Late e (set c at f.word) (set c at f.word) q q f.count
    late_start = record {
      frame = framed_none _ _ _;
      leaf = λ A. ap (λ (x : ℕ). bit x A) (ap (λ (y : ℕ). get_or (set c at f.word) y 0) (sym is) ∙ get_or-set_same c at f.word 0 here) ∙ leaf.word A;
      inner = λ i l A. ap (λ (x : ℕ). bit x A) (cleared i l) ∙ bit_of_zero A ∙ ap (min 1) (sym (between_none (max i q) (q + 1) _ (omega arith)));
      counted = leaf.count ∙ sym (ap (λ (x : ℕ). event_firings g e + x) (sum_zero q _ (λ i l. between_none (max i q) (q + 1) _ (omega arith))) ∙ add-zero _);
    }

  module _ (e q p n m : ℕ) (c₀ c d : List ℕ) (inside : p + 1 ≤ q) (was : Late e c₀ c q (p + 1) n) (push : Pushed g (p + 1) (q + 1) c d (p + 1) m) where
    left_same : (i x : ℕ) → i < x → x < q + 1 → rd d i x ≡ rd c i x
    left_same i x l h = push.frame.before _ (omega (arith, before_mono x (q + 1) h))

    right_same : (x : ℕ) → p + 1 ≤ x → rd d x (q + 1) ≡ rd c x (q + 1)
    right_same x l = push.frame.after _ (omega arith)

    -- F is conclusions or hits
    module _ (F : ℕ → ℕ → ℕ) (i : ℕ) where
      same_behind : (lo : ℕ) → i ≤ lo → p + 1 ≤ lo → between lo (q + 1) (λ j. F (rd d i j) (rd d j (q + 1))) ≡ between lo (q + 1) (λ j. F (rd c i j) (rd c j (q + 1)))
      same_behind lo a b = between_cong lo (q + 1) _ _ (λ j l h. ap₂ F (left_same i j (omega arith) h) (right_same j (omega arith)))

      sum_stays : p + 1 ≤ i → between (max i p) (q + 1) (λ j. F (rd d i j) (rd d j (q + 1))) ≡ between (max i (p + 1)) (q + 1) (λ j. F (rd c i j) (rd c j (q + 1)))
      sum_stays l =
          let y : max i p ≡ i = omega arith in
          let z : max i (p + 1) ≡ i = omega arith in
          rw (y, z) (same_behind i (omega arith) l)

      sum_grows : i < p + 1 → between (max i p) (q + 1) (λ j. F (rd d i j) (rd d j (q + 1)))
          ≡ between (max i (p + 1)) (q + 1) (λ j. F (rd c i j) (rd c j (q + 1))) + F (rd c i (p + 1)) (rd c (p + 1) (q + 1))
      sum_grows l =
          let y : max i p ≡ p = omega arith in
          let z : max i (p + 1) ≡ p + 1 = omega arith in
          let a = first_between p (q + 1) (λ j. F (rd d i j) (rd d j (q + 1))) (omega arith) in
          let b = same_behind (p + 1) (omega arith) (omega arith) in
          let c = ap₂ F (left_same i (p + 1) l (omega arith)) (right_same (p + 1) (omega arith)) in
          rw (y, z) (omega (arith, a, b, c))

    inner_now : (i : ℕ) → i < q → (A : ℕ) → bit (rd d i (q + 1)) A ≡ min 1 (between (max i p) (q + 1) (λ j. conclusions g (rd d i j) (rd d j (q + 1)) A))
    inner_now i l A = ⊎_elim
        (λ (s : i < p + 1). push.cell i s A ∙ some_join _ _ _ (was.inner i l A) ∙ ap (min 1) (sym (sum_grows (λ x y. conclusions g x y A) i s)))
        (λ (s : p + 1 ≤ i). ap (λ (x : ℕ). bit x A) (right_same i s) ∙ was.inner i l A ∙ ap (min 1) (sym (sum_stays (λ x y. conclusions g x y A) i s)))
        (lt_or_ge i (p + 1))

    stepped : Late e c₀ d q p (n + m)
    stepped = record {
      frame = framed_on c₀ c d _ _ was.frame (framed_wider c d _ (p + 1) (q + 1) (omega arith) push.frame);
      leaf = λ A. ap (λ (x : ℕ). bit x A) (right_same q inside) ∙ was.leaf A;
      inner = inner_now;
      counted = omega (
        arith,
        was.counted,
        push.counted,
        sum_grown q (p + 1) _ (λ i. between (max i p) (q + 1) (λ j. hits g (rd d i j) (rd d j (q + 1)))) _ inside (λ i s. sum_grows (hits g) i s) (λ i s l. sum_stays (hits g) i s),
      );
    }

  -- the split that is next, told by its own number
  pub late_step : (e q p j n m : ℕ) (c₀ c d : List ℕ) → p + 1 ≤ q → j ≡ p + 1 → Late e c₀ c q j n → Pushed g j (q + 1) c d j m → Late e c₀ d q p (n + m)
  late_step e q p j n m c₀ c d inside next was push = stepped e q p n m c₀ c d inside (rw next at was) (rw next at push)

  -- all of it, from the chart before the column was cleared
  pub late_done : (e q n : ℕ) (c₀ c d : List ℕ) → Framed c₀ c (cell_at 0 (q + 1)) (q + 1) → Late e c d q 0 n → ColumnFilled g e c₀ d q n
  unfolding column_firings cell_conclusions cell_firings pair_firings hits hit
  late_done e q n c₀ c d f w = record {
    column = record { leaf = w.leaf; inner = λ i l A. rw (max-zero i) at (w.inner i l A) };
    counted = w.counted ∙ ap (λ (x : ℕ). event_firings g e + x) (sum_cong q _ _ (λ i l. ap (λ (y : ℕ). between y (q + 1) (λ j. hits g (rd d i j) (rd d j (q + 1)))) (max-zero i)));
    frame = framed_on c₀ c d _ _ f w.frame;
  }
