-- The marks keep up with what is filled: a cell whose symbols are marked is shown, and a column's end is the next one's start.
-- Assumes nothing.
use mathlib.Core.Path.{◌≡◌, refl, sym, ap, ap₂, ◌∙◌}
use mathlib.Core.Logic.{◌≢◌, ◌⊎◌, inl, inr, ⊎_elim}
use mathlib.Core.List.{List}
use Prim.Native.Nat.{ℕ, ◌+◌, ◌*◌, ◌≤◌, ◌<◌, max}
use native.Mathlib.Nat.{eq-or-lt_of_le, lt_of_lt_of_le}
use native.Mathlib.Decide.{dec_lt}
use native.Mathlib.Omega.{arith}
use lib.ListN.{replicate, length-replicate}
use Rattle.bits.specs.Truth.{same}
use Rattle.bits.specs.Sum.{sum, between}
use Rattle.bits.specs.Bit.{bit}
use Rattle.bits.proofs.Truths.{same_refl, same_other}
use Rattle.bits.proofs.Sums.{sum_between, between_cong}
use Rattle.marks.specs.Mark.{stands, Marked}
use Rattle.marks.specs.Shown.{InUse, Filled, Lefts, Rights, Shown, CellMarked}
use Rattle.marks.proofs.Marks.{unmarked, told_none}

module _ (m : ℕ) (P : ℕ → ℕ → ℕ → ℕ) where
  -- ---- nothing is marked yet
  pub lefts_start : (n : ℕ) → m ≤ 64 → Lefts m P (replicate n 0) 1 1
  lefts_start n few = record {
    few = omega arith;
    symbols = few;
    told = told_none n;
    left = λ x j a l f s. absurd (⊎_elim (λ (h : j < 1). omega arith) (λ (h : (j ≡ 1) × (1 ≤ x)). omega (arith, h.0, h.1)) f);
    ahead = λ x j a l h f s. unmarked n x a j;
  }

  pub rights_start : (k : ℕ) → Rights m P (replicate 131 0) k k
  rights_start k = record {
    room = omega (arith, length-replicate {A = ℕ} 131 0);
    told = told_none 131;
    right = λ j a l h s. absurd (omega arith);
    outside = λ j a l f s. unmarked 131 0 a j;
  }

  -- a whole column is what the next one starts from
  pub lefts_next : (t : List ℕ) (k : ℕ) → k < 96 → Lefts m P t 0 k → Lefts m P t (k + 1) (k + 1)
  lefts_next t k l w = record {
    few = omega arith;
    symbols = w.symbols;
    told = w.told;
    left = λ x j a h f s. w.left x j a h (⊎_elim
        (λ (o : j < k + 1). ⊎_elim (λ (e : j ≡ k). inr (e, omega arith)) (λ (o : j < k). inl o) (eq-or-lt_of_le (omega arith)))
        (λ (o : (j ≡ k + 1) × (k + 1 ≤ x)). absurd (omega (arith, o.0, o.1))) f) s;
    ahead = λ x j a h n f s. w.ahead x j a h n (inl (⊎_elim (λ (o : k + 1 < j). omega arith) (λ (o : (j ≡ k + 1) × (x < k + 1)). omega (arith, o.0)) f)) s;
  }

  -- ---- at how many splits two symbols stand, weighed by G: the splits of cell (i, k)
  module _ (t u : List ℕ) (i k : ℕ) (inside : i < k) (rows : Lefts m P t (i + 1) k) (cols : Rights m P u (i + 1) k) (a b : ℕ) (l : a < m) (h : b < m) where
    pub met_between : (G : ℕ → ℕ) → sum 128 (λ j. stands t i a j * stands u 0 b j * G j) ≡ between i k (λ j. P i j a * P j k b * G j)
    met_between G =
        sum_between 128 i k (λ j. stands t i a j * stands u 0 b j * G j) inside (omega (arith, rows.few))
        (λ j o f. ap (λ (y : ℕ). stands t i a j * y * G j) (cols.outside j b o f h) ∙ omega arith)
        ∙ between_cong i k _ _ (λ j o p. ap₂ (λ (x y : ℕ). x * y * G j) (rows.left i j a o (inl p) l) (cols.right j b (omega arith) p h))

-- what is not marked at x and j
skip : (x i j k b s : ℕ) → (i ≢ x) ⊎ (k ≢ j) → max s (same i x * same k j * b) ≡ s
skip x i j k b s (inl n) = rw (same_other i x n) (omega arith)
skip x i j k b s (inr n) = rw (same_other k j n) (product (same i x) b s)
  where
    product : (x y s : ℕ) → max s (x * 0 * y) ≡ s
    product x y s = omega arith

new : (x j b s : ℕ) → s ≡ 0 → max s (same x x * same j j * b) ≡ b
new x j b s z = rw (same_refl x, same_refl j, z) (omega arith)

-- ---- cell (i, k) is filled and marked: Q where it was P
module _ (m : ℕ) (P Q : ℕ → ℕ → ℕ → ℕ) (i k w : ℕ) (inside : i < k) (is : (a : ℕ) → a < m → bit w a ≡ Q i k a)
    (other : (x j a : ℕ) → x < j → (j < k) ⊎ ((j ≡ k) × (i < x)) → a < m → Q x j a ≡ P x j a) where
  lefts_step : (t u : List ℕ) → Lefts m P t (i + 1) k → Marked t u i k w → Lefts m Q u i k
  lefts_step t u was n = record {
    few = was.few;
    symbols = was.symbols;
    told = n.told was.told;
    left = λ x j a l f s. n.at x a j (lt_of_lt_of_le s was.symbols) (reach x j f) ∙ shown x j a l f s;
    ahead = λ x j a l h f s. n.at x a j (lt_of_lt_of_le s was.symbols) h ∙ ⊎_elim
        (λ (o : k < j). skip x i j k (bit w a) _ (inr (λ e. omega arith)) ∙ was.ahead x j a l h (inl o) s)
        (λ (o : (j ≡ k) × (x < i)). skip x i j k (bit w a) _ (inl (λ e. omega (arith, o.1))) ∙ was.ahead x j a l h (inr (o.0, omega (arith, o.1))) s) f;
  }
    where
      reach : (x j : ℕ) → Filled i k x j → j < 128
      reach x j (inl h) = omega (arith, was.few)
      reach x j (inr h) = omega (arith, was.few, h.0)

      shown : (x j a : ℕ) → x < j → Filled i k x j → a < m → max (stands t x a j) (same i x * same k j * bit w a) ≡ Q x j a
      shown x j a l (inl h) s = skip x i j k (bit w a) _ (inr (λ e. omega arith)) ∙ was.left x j a l (inl h) s ∙ sym (other x j a l (inl h) s)
      shown x j a l (inr h) s = ⊎_elim
          (λ (e : i ≡ x). rw (← e, h.0) (new i k (bit w a) _ (was.ahead i k a (omega (arith, was.few)) (omega (arith, was.few)) (inr (refl, omega arith)) s) ∙ is a s))
          (λ (o : i < x). skip x i j k (bit w a) _ (inl (λ e. omega arith)) ∙ was.left x j a l (inr (h.0, omega arith)) s ∙ sym (other x j a l (inr (h.0, o)) s))
          (eq-or-lt_of_le h.1)

  rights_step : (t u : List ℕ) → k ≤ 96 → m ≤ 64 → Rights m P t (i + 1) k → Marked t u 0 i w → Rights m Q u i k
  rights_step t u few symbols was n = record {
    room = omega (arith, n.long, was.room);
    told = n.told was.told;
    right = λ j a l h s. n.at 0 a j (lt_of_lt_of_le s symbols) (omega arith) ∙ ⊎_elim
        (λ (e : i ≡ j). rw (← e) (new 0 i (bit w a) _ (was.outside i a (omega arith) (inl (omega arith)) s) ∙ is a s))
        (λ (o : i < j). skip 0 0 j i (bit w a) _ (inr (λ e. omega arith)) ∙ was.right j a (omega arith) h s ∙ sym (other j k a h (inr (refl, o)) s))
        (eq-or-lt_of_le l);
    outside = λ j a l f s. n.at 0 a j (lt_of_lt_of_le s symbols) l ∙ ⊎_elim
        (λ (o : j < i). skip 0 0 j i (bit w a) _ (inr (λ e. omega arith)) ∙ was.outside j a l (inl (omega arith)) s)
        (λ (o : k ≤ j). skip 0 0 j i (bit w a) _ (inr (λ e. omega arith)) ∙ was.outside j a l (inr o) s) f;
  }

  pub shown_step : (t v u x : List ℕ) → CellMarked t v u x i k w → Shown m P t u (i + 1) k → Shown m Q v x i k
  shown_step t v u x c was there =
      let n : InUse t = omega (arith, c.long) in
      let s = was n in
      (lefts_step t v s.0 (c.marked n).0, rights_step u x s.0.few s.0.symbols s.1 (c.marked n).1)

-- ---- a column that is empty before q: nothing needs to be marked
pub shown_empty : (m : ℕ) (P Q : ℕ → ℕ → ℕ → ℕ) (t u : List ℕ) (q k : ℕ) → q < k → ((x a : ℕ) → x < q → a < m → Q x k a ≡ 0)
    → ((x j a : ℕ) → x < j → Filled q k x j → a < m → Q x j a ≡ P x j a) → Shown m P t u q k → Shown m Q t u 0 k
shown_empty m P Q t u q k inside none same-as was there =
    let s = was there in
    let rows = s.0 in
    let cols = s.1 in (
      record {
        few = rows.few;
        symbols = rows.symbols;
        told = rows.told;
        left = λ x j a l f h. ⊎_elim
            (λ (o : j < k). rows.left x j a l (inl o) h ∙ sym (same-as x j a l (inl o) h))
            (λ (o : (j ≡ k) × (0 ≤ x)). elim (dec_lt x q) [
              | yes b ↦ rows.ahead x j a (omega (arith, rows.few)) (omega (arith, rows.few, o.0)) (inr (o.0, b)) h ∙ sym (ap (λ (y : ℕ). Q x y a) o.0 ∙ none x a b h)
              | no b ↦ rows.left x j a l (inr (o.0, omega arith)) h ∙ sym (same-as x j a l (inr (o.0, omega arith)) h)
            ]) f;
        ahead = λ x j a l h f o. ⊎_elim (λ (b : k < j). rows.ahead x j a l h (inl b) o) (λ (b : (j ≡ k) × (x < 0)). absurd (omega (arith, b.1))) f;
      },
      record {
        room = cols.room;
        told = cols.told;
        right = λ j a l h o. elim (dec_lt j q) [
          | yes b ↦ cols.outside j a (omega (arith, rows.few)) (inl b) o ∙ sym (none j a b o)
          | no b ↦ cols.right j a (omega arith) h o ∙ sym (same-as j k a h (inr (refl, omega arith)) o)
        ];
        outside = λ j a l f o. ⊎_elim (λ (b : j < 0). absurd (omega arith)) (λ (b : k ≤ j). cols.outside j a l (inr b) o) f;
      },
    )
