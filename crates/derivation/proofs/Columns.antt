-- Where the cells stand: columns follow each other without a gap, and each word of the chart is one cell.
-- Assumes nothing.
use mathlib.Core.Path.{◌≡◌, refl, ap, sym, ◌∙◌}
use mathlib.Core.Logic.{⊎_elim}
use Prim.Native.Nat.{ℕ, zero, suc, ◌+◌, ◌-◌, ◌*◌, ◌/◌, ◌≤◌, ◌<◌, zero-le}
use native.Mathlib.Nat.{le_refl, not-suc-le-zero, eq-or-lt_of_le, le_of_suc-le-suc, lt_of_not-le, mul-le-mul}
use native.Mathlib.Numerals.{add-one}
use native.Mathlib.Decide.{dec_le}
use native.Mathlib.Omega.{arith}
use Rattle.bits.specs.Sum.{sum}
use Rattle.bits.proofs.Sums.{sum_split}
use Rattle.derivation.specs.Chart.{cells_before, cell_at, cells}

-- the products that the code forms fit a machine word
pub product_small : (a b : ℕ) → a ≤ 65536 → b ≤ 65536 → a * b ≤ 65536 * 65536
product_small a b = mul-le-mul

halves : (k p : ℕ) → (p + k + (k + k + 2)) / 2 ≡ (p + k) / 2 + suc k
halves k p = omega arith

pub before_more : (k : ℕ) → cells_before (k + 1) ≡ cells_before k + k
unfolding cells_before
before_more zero = refl
before_more (suc k) =
    let a : suc k + 1 - 1 ≡ suc k = omega arith in
    let b : suc k - 1 ≡ k = omega arith in
    let c : (suc k + 1) * suc k ≡ k * k + k + (k + k + 2) = omega arith in
    let d : suc k * k ≡ k * k + k = omega arith in
    rw (a, b, c, d) (halves k (k * k))

pub cells_column : (n : ℕ) → cells n ≡ cells_before (n + 1)
unfolding cells cells_before
cells_column n =
    let e : n + 1 - 1 ≡ n = omega arith in
    ap (λ (x : ℕ). x / 2) (rw e (omega arith))

pub cells_more : (n : ℕ) → cells (n + 1) ≡ cells n + (n + 1)
cells_more n = cells_column (n + 1) ∙ before_more (n + 1) ∙ ap (λ (x : ℕ). x + (n + 1)) (sym (cells_column n))

-- columns follow each other
pub before_mono : (j k : ℕ) → j < k → cells_before j + j ≤ cells_before k
before_mono j zero l = absurd (not-suc-le-zero l)
before_mono j (suc k) l =
    ⊎_elim (λ (e : j ≡ k). rw (e, ← add-one k, before_more k) (le_refl _))
    (λ (m : j < k). rw (← add-one k, before_more k) (omega (arith, before_mono j k m))) (eq-or-lt_of_le (le_of_suc-le-suc l))

-- the cells of a record can be counted with 32 bits
pub cells_small : (n : ℕ) → n < 65536 → cells n < 4294967296
unfolding cells
cells_small n h = omega (arith, product_small n (n + 1) (omega arith) (omega arith))

-- a cell of a record of n events is one of its words
pub cell_within : (n i k : ℕ) → i < k → k ≤ n → cell_at i k < cells n
cell_within n i k h l = omega (arith, cells_column n, before_mono k (n + 1) (omega arith))

-- and each of its words is a cell
pub record Cell (n y : ℕ) : Type 0 where
  pub i : ℕ
  pub k : ℕ
  pub lt : i < k
  pub le : k ≤ n
  pub is : y ≡ cell_at i k

in_last : (n y : ℕ) → y < cells_before (n + 1) → cells_before n ≤ y → Cell n y
in_last n y h g = record { i = y - cells_before n; k = n; lt = omega (arith, before_more n); le = le_refl n; is = omega arith }

wider : (n y : ℕ) → Cell n y → Cell (suc n) y
wider n y c = record { i = c.i; k = c.k; lt = c.lt; le = omega arith; is = c.is }

column_zero : (y : ℕ) → cells_before 0 ≤ y
unfolding cells_before
column_zero y = zero-le

find : (n y : ℕ) → y < cells_before (n + 1) → Cell n y
find zero y h = in_last 0 y h (column_zero y)
find (suc n) y h = go (dec_le (cells_before (suc n)) y) (λ g. find n y g)
  where
    go : Dec (cells_before (suc n) ≤ y) → (y < cells_before (n + 1) → Cell n y) → Cell (suc n) y
    go (yes g) rec = in_last (suc n) y h g
    go (no g) rec = wider n y (rec (rw (add-one n) (lt_of_not-le g)))

pub cell_of : (n y : ℕ) → y < cells n → Cell n y
cell_of n y h = find n y (rw cells_column at h)

-- a sum over the words is one over the cells
pub sum_cells : (n : ℕ) (f : ℕ → ℕ) → sum (cells n) f ≡ sum n (λ q. sum (q + 1) (λ i. f (cell_at i (q + 1))))
unfolding sum cells
sum_cells zero f = refl
sum_cells (suc n) f =
    let e : cells (suc n) ≡ cells_before (n + 1) + (n + 1) = rw (← add-one n, cells_more n, cells_column n) in
    ap (λ (y : ℕ). sum y f) e ∙ sum_split (cells_before (n + 1)) (n + 1) f
    ∙ ap (λ (x : ℕ). x + sum (n + 1) (λ i. f (cell_at i (n + 1)))) (ap (λ (y : ℕ). sum y f) (sym (cells_column n)) ∙ sum_cells n f)
