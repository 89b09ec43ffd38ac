-- Laws of sums: one term more, terms that agree, sums of sums, where a sum is 0; and `min 1`, which turns a sum into "some".
-- Assumes nothing.
use mathlib.Core.Path.{◌≡◌, refl, sym, ap, ap₂, ◌∙◌, subst}
use mathlib.Core.Logic.{◌⊎◌, inl, inr, ⊎_elim}
use Prim.Native.Nat.{ℕ, zero, suc, ◌+◌, ◌-◌, ◌*◌, ◌≤◌, ◌<◌, min, max, zero-le}
use native.Mathlib.Nat.{le_refl, zero-add, mul-one, mul_comm, le_step, lt-suc_self, add-zero, add-suc, mul-zero, mul-pos, zero-lt-suc, not-suc-le-zero, le_of_suc-le-suc, eq-or-lt_of_le}
use native.Mathlib.Numerals.{add-one}
use native.Mathlib.Decide.{ℕ_discrete}
use native.Mathlib.Omega.{arith}
use Rattle.bits.specs.Truth.{same}
use Rattle.bits.specs.Sum.{sum, between}
use Rattle.bits.proofs.Truths.{same_eq, same_other, same_lt}

-- ---- sums
pub sum_more : (n : ℕ) (f : ℕ → ℕ) → sum (n + 1) f ≡ sum n f + f n
unfolding sum
sum_more n f = ap (λ (m : ℕ). sum m f) (add-one n)

pub sum_cong : (n : ℕ) (f g : ℕ → ℕ) → ((x : ℕ) → x < n → f x ≡ g x) → sum n f ≡ sum n g
unfolding sum
sum_cong zero f g h = refl
sum_cong (suc n) f g h = ap₂ ◌+◌ (sum_cong n f g (λ x l. h x (le_step l))) (h n (lt-suc_self n))

pub sum_zero : (n : ℕ) (f : ℕ → ℕ) → ((x : ℕ) → x < n → f x ≡ 0) → sum n f ≡ 0
unfolding sum
sum_zero zero f h = refl
sum_zero (suc n) f h = omega (arith, sum_zero n f (λ x l. h x (le_step l)), h n (lt-suc_self n))

pub sum_mono : (n : ℕ) (f g : ℕ → ℕ) → ((x : ℕ) → x < n → f x ≤ g x) → sum n f ≤ sum n g
unfolding sum
sum_mono zero f g h = zero-le
sum_mono (suc n) f g h = omega (arith, sum_mono n f g (λ x l. h x (le_step l)), h n (lt-suc_self n))

pub sum_le : (n c : ℕ) (f : ℕ → ℕ) → ((x : ℕ) → x < n → f x ≤ c) → sum n f ≤ n * c
unfolding sum
sum_le zero c f h = zero-le
sum_le (suc n) c f h = omega (arith, sum_le n c f (λ x l. h x (le_step l)), h n (lt-suc_self n))

-- the first term apart
pub sum_front : (n : ℕ) (f : ℕ → ℕ) → sum (suc n) f ≡ f 0 + sum n (λ x. f (suc x))
unfolding sum
sum_front zero f = omega arith
sum_front (suc n) f = let e : sum (suc n) f ≡ f 0 + sum n (λ x. f (suc x)) = sum_front n f in omega arith

-- a sum in two parts, and one whose second part is 0
pub sum_split : (n m : ℕ) (f : ℕ → ℕ) → sum (n + m) f ≡ sum n f + sum m (λ x. f (n + x))
unfolding sum
sum_split n zero f = ap (λ (y : ℕ). sum y f) (add-zero n) ∙ sym (add-zero (sum n f))
sum_split n (suc m) f =
    ap (λ (y : ℕ). sum y f) (add-suc n m) ∙ omega (arith, sum_split n m f)

pub sum_skip : (n m : ℕ) (f : ℕ → ℕ) → ((x : ℕ) → x < m → f (n + x) ≡ 0) → sum (n + m) f ≡ sum n f
sum_skip n m f h = omega (arith, sum_split n m f, sum_zero m (λ x. f (n + x)) h)

pub sum_add : (n : ℕ) (f g : ℕ → ℕ) → sum n (λ x. f x + g x) ≡ sum n f + sum n g
unfolding sum
sum_add zero f g = refl
sum_add (suc n) f g = let e : sum n (λ x. f x + g x) ≡ sum n f + sum n g = sum_add n f g in omega arith

pub sum_scale : (n c : ℕ) (f : ℕ → ℕ) → sum n (λ x. c * f x) ≡ c * sum n f
unfolding sum
sum_scale zero c f = sym (mul-zero c)
sum_scale (suc n) c f = let e : sum n (λ x. c * f x) ≡ c * sum n f = sum_scale n c f in omega arith

pub sum_swap : (n m : ℕ) (f : ℕ → ℕ → ℕ) → sum n (λ x. sum m (f x)) ≡ sum m (λ y. sum n (λ x. f x y))
unfolding sum
sum_swap zero m f = sym (sum_zero m (λ y. 0) (λ y l. refl))
sum_swap (suc n) m f = ap (λ (z : ℕ). z + sum m (f n)) (sum_swap n m f) ∙ sym (sum_add m (λ y. sum n (λ x. f x y)) (f n))

-- a part of a sum is below the whole
pub sum_room : (n : ℕ) (f : ℕ → ℕ) (r m : ℕ) → r < n → m < f r → sum r f + m < sum n f
unfolding sum
sum_room zero f r m h l = absurd (not-suc-le-zero h)
sum_room (suc n) f r m h l =
    ⊎_elim (λ (e : r ≡ n). subst (λ (q : ℕ). sum r f + m < sum q f + f q) e (omega arith))
    (λ (q : r < n). omega (arith, sum_room n f r m q l)) (eq-or-lt_of_le (le_of_suc-le-suc h))

-- and so is the part up to a term with that term
pub sum_upto : (n : ℕ) (f : ℕ → ℕ) (r : ℕ) → r < n → sum r f + f r ≤ sum n f
unfolding sum
sum_upto zero f r h = absurd (not-suc-le-zero h)
sum_upto (suc n) f r h =
    ⊎_elim (λ (e : r ≡ n). subst (λ (q : ℕ). sum r f + f r ≤ sum q f + f q) e (le_refl _))
    (λ (q : r < n). omega (arith, sum_upto n f r q)) (eq-or-lt_of_le (le_of_suc-le-suc h))

-- one term that counts
pub sum_at : (n x : ℕ) (F : ℕ → ℕ) → x < n → sum n (λ s. F s * same x s) ≡ F x
unfolding sum
sum_at zero x F h = absurd (not-suc-le-zero h)
sum_at (suc n) x F h =
    ⊎_elim
    (λ (e : x ≡ n).
    let z : sum n (λ s. F s * same x s) ≡ 0 = sum_zero n _ (λ s l. ap (λ (y : ℕ). F s * y) (same_other x s (λ q. omega arith)) ∙ mul-zero (F s)) in
    ap₂ ◌+◌ z (ap (λ (y : ℕ). F n * y) (same_eq x n e) ∙ mul-one (F n)) ∙ zero-add (F n) ∙ ap F (sym e))
    (λ (l : x < n). ap₂ ◌+◌ (sum_at n x F l) (ap (λ (y : ℕ). F n * y) (same_other x n (λ q. omega arith)) ∙ mul-zero (F n)) ∙ add-zero (F x))
    (eq-or-lt_of_le (le_of_suc-le-suc h))

-- no number equals two others
pub sum_one : (n x : ℕ) → sum n (same x) ≤ 1
unfolding sum
sum_one zero x = zero-le
sum_one (suc n) x =
    elim (ℕ_discrete x n) [
      | yes e ↦
          let z : sum n (same x) ≡ 0 = sum_zero n (same x) (λ s l. same_other x s (λ q. omega arith)) in
          omega (arith, same_lt x n)
      | no e ↦ omega (arith, sum_one n x, same_other x n e)
    ]

-- ---- sums between two numbers
pub between_none : (i k : ℕ) (f : ℕ → ℕ) → k ≤ i + 1 → between i k f ≡ 0
unfolding between sum
between_none i k f h = let e : k - (i + 1) ≡ 0 = omega arith in rw e

pub between_zero : (i k : ℕ) → between i k (λ j. 0) ≡ 0
unfolding between
between_zero i k = sum_zero (k - (i + 1)) _ (λ x l. refl)

pub between_more : (i k : ℕ) (f : ℕ → ℕ) → i < k → between i (k + 1) f ≡ between i k f + f k
unfolding between
between_more i k f h =
    let e : k + 1 - (i + 1) ≡ k - (i + 1) + 1 = omega arith in
    let d : i + 1 + (k - (i + 1)) ≡ k = omega arith in
    ap (λ (m : ℕ). sum m (λ x. f (i + 1 + x))) e ∙ sum_more (k - (i + 1)) (λ x. f (i + 1 + x))
    ∙ ap (λ (j : ℕ). sum (k - (i + 1)) (λ x. f (i + 1 + x)) + f j) d

pub between_cong : (i k : ℕ) (f g : ℕ → ℕ) → ((j : ℕ) → i < j → j < k → f j ≡ g j) → between i k f ≡ between i k g
unfolding between
between_cong i k f g h = sum_cong (k - (i + 1)) (λ x. f (i + 1 + x)) (λ x. g (i + 1 + x)) (λ x l. h (i + 1 + x) (omega arith) (omega arith))

pub between_le : (i k c : ℕ) (f : ℕ → ℕ) → ((j : ℕ) → i < j → j < k → f j ≤ c) → between i k f ≤ (k - (i + 1)) * c
unfolding between
between_le i k c f h = sum_le (k - (i + 1)) c (λ x. f (i + 1 + x)) (λ x l. h (i + 1 + x) (omega arith) (omega arith))

-- a part of it is below the whole
pub between_room : (i j k : ℕ) (f : ℕ → ℕ) (m : ℕ) → i < j → j < k → m < f j → between i j f + m < between i k f
unfolding between
between_room i j k f m a b h =
    let d : i + 1 + (j - (i + 1)) ≡ j = omega arith in
    sum_room (k - (i + 1)) (λ x. f (i + 1 + x)) (j - (i + 1)) m (omega arith) (subst (λ (y : ℕ). m < f y) (sym d) h)

-- a sum whose terms are 0 elsewhere
pub sum_between : (n i k : ℕ) (f : ℕ → ℕ) → i < k → k ≤ n → ((j : ℕ) → j < n → (j < i + 1) ⊎ (k ≤ j) → f j ≡ 0) → sum n f ≡ between i k f
unfolding between
sum_between n i k f l h none =
    let e : n ≡ i + 1 + (k - (i + 1) + (n - k)) = omega arith in
    ap (λ (m : ℕ). sum m f) e ∙ sum_split (i + 1) (k - (i + 1) + (n - k)) f
    ∙ ap₂ ◌+◌ (sum_zero (i + 1) f (λ x o. none x (omega arith) (inl o)))
    (sum_split (k - (i + 1)) (n - k) (λ x. f (i + 1 + x))
    ∙ ap (λ (y : ℕ). sum (k - (i + 1)) (λ x. f (i + 1 + x)) + y) (sum_zero (n - k) _ (λ x o. none _ (omega arith) (inr (omega arith)))))
    ∙ omega arith

pub between_swap : (i k n : ℕ) (f : ℕ → ℕ → ℕ) → between i k (λ j. sum n (f j)) ≡ sum n (λ b. between i k (λ j. f j b))
unfolding between
between_swap i k n f = sum_swap (k - (i + 1)) n (λ x b. f (i + 1 + x) b)

pub between_scale : (i k s : ℕ) (f : ℕ → ℕ) → between i k (λ j. f j * s) ≡ between i k f * s
unfolding between
between_scale i k s f =
    sum_cong (k - (i + 1)) _ _ (λ x l. mul_comm (f (i + 1 + x)) s) ∙ sum_scale (k - (i + 1)) s (λ x. f (i + 1 + x)) ∙ mul_comm s _

-- ---- products of 0 and 1
pub product_le : (p q : ℕ) → p < 2 → q < 2 → p * q ≤ 1
product_le zero q l m = omega arith
product_le (suc zero) q l m = omega arith
product_le (suc (suc p)) q l m = omega arith

-- ---- some: min 1 passes through sums and products
pub some_cong : (n : ℕ) (f g : ℕ → ℕ) → ((x : ℕ) → x < n → min 1 (f x) ≡ min 1 (g x)) → min 1 (sum n f) ≡ min 1 (sum n g)
unfolding sum
some_cong zero f g h = refl
some_cong (suc n) f g h =
    let a : min 1 (sum n f) ≡ min 1 (sum n g) = some_cong n f g (λ x l. h x (le_step l)) in
    let b : min 1 (f n) ≡ min 1 (g n) = h n (lt-suc_self n) in
    omega arith

pub some_mul : (x y : ℕ) → min 1 (x * y) ≡ min 1 x * min 1 y
some_mul zero y = omega arith
some_mul (suc x) zero = omega arith
some_mul (suc x) (suc y) =
    let a : min 1 (suc x) ≡ 1 = omega arith in
    let b : min 1 (suc y) ≡ 1 = omega arith in
    rw (a, b) (omega (arith, mul-pos (zero-lt-suc x) (zero-lt-suc y)))

pub some_once : (x : ℕ) → min 1 (min 1 x) ≡ min 1 x
some_once x = omega arith

-- one term more of a sum that was turned into "some"
pub some_add : (s t : ℕ) → t ≤ 1 → max (min 1 s) t ≡ min 1 (s + t)
some_add s t l = omega arith

pub some_more : (b s t : ℕ) → t ≤ 1 → max (max b (min 1 s)) t ≡ max b (min 1 (s + t))
some_more b s t l = omega arith

pub some_left : (b s x : ℕ) → x ≡ max b (min 1 s) → (t : ℕ) → max x (min 1 t) ≡ max b (min 1 (s + t))
some_left b s x e t = omega arith

pub some_join : (x s t : ℕ) → x ≡ min 1 s → max x (min 1 t) ≡ min 1 (s + t)
some_join x s t e = omega arith
