-- Laws of `join`, `gate` and `cross`: what their elements are, how many, and which stands where.
-- Assumes nothing.
use mathlib.Core.Path.{◌≡◌, refl, sym, ap, ◌∙◌, subst}
use mathlib.Core.Bool.{Bool, true, false, ◌&&◌}
use mathlib.Core.Logic.{⊎_elim}
use mathlib.Core.List.Memᴰ
use mathlib.Core.List.{List, [], ◌∷◌, ◌++◌, map, Memᴰ}
use Prim.Native.Nat.{ℕ, zero, suc, ◌+◌, ◌*◌, ◌<◌, suc-le-suc}
use native.Mathlib.Nat.{not-suc-le-zero, lt-suc_self, eq-or-lt_of_le, le_of_suc-le-suc, le_step, zero-lt-suc}
use native.Mathlib.Omega.{arith}
use native.Mathlib.Decide.{ℕ_discrete}
use borrow.Author.Tests.{eq-eqb, ne_eqb}
use lib.Dec.{T, eqb, eqb_refl}
use lib.ListN.{length, get_or, length-append, length-map, get_or-append}
use lib.Seq.{get_or-append-add}
use Rattle.bits.specs.Truth.{same}
use Rattle.bits.specs.Sum.{sum}
use Rattle.bits.proofs.Truths.{same_eq, same_other}
use Rattle.bits.proofs.Sums.{sum_room}
use Rattle.derivation.specs.Derivations.{join, gate, cross}

abbrev pub ◌∈◌ {ℓ} : {X : Type ℓ} → X → List X → Type ℓ
x ∈ xs = Memᴰ x xs

infix 20 ◌∈◌
-- ---- tests
pub eq→eqb : (m n : ℕ) → m ≡ n → T (eqb m n)
eq→eqb m n e = subst (λ (k : ℕ). T (eqb m k)) e (eqb_refl m)

pub both : (a b : Bool) → T a → T b → T (a && b)
both true b s t = t
both false b s t = s

pub first : (a b : Bool) → T (a && b) → T a
first true b t = tt
first false b t = t

pub second : (a b : Bool) → T (a && b) → T b
second true b t = t
second false b t = absurd t

-- a test as a number
abbrev pub truth : Bool → ℕ
truth true = 1
truth false = 0

pub truth_and : (a b : Bool) → truth (a && b) ≡ truth a * truth b
truth_and true b = omega arith
truth_and false b = omega arith

pub truth_eqb : (m n : ℕ) → truth (eqb m n) ≡ same m n
truth_eqb m n =
    elim (ℕ_discrete m n) [
      | yes e ↦ ap truth (eq-eqb m n e) ∙ sym (same_eq m n e)
      | no e ↦ ap truth (ne_eqb m n e) ∙ sym (same_other m n e)
    ]

-- ---- no element
pub no_length : {X : Type 0} (l : List X) → length l ≡ 0 → l ≡ []
no_length [] e = refl
no_length (x ∷ l) e = absurd (omega arith)

-- ---- one thing of each element, by its place
module _ {ℓ} {X Y : Type ℓ} (h : X → Y) where
  pub map_at : (us : List X) (b : ℕ) (d : X) (e : Y) → b < length us → get_or (map h us) b e ≡ h (get_or us b d)
  map_at [] b d e l = absurd (not-suc-le-zero l)
  map_at (u ∷ us) zero d e l = refl
  map_at (u ∷ us) (suc b) d e l = map_at us b d e (le_of_suc-le-suc l)

-- ---- lists
module _ {ℓ} {X : Type ℓ} where
  -- the elements of a join are those of its parts
  pub join_of : {x : X} (n : ℕ) (f : ℕ → List X) → x ∈ join n f → (r : ℕ) × (r < n) × (x ∈ f r)
  unfolding join
  join_of zero f m = absurd (Memᴰ.not-nil m)
  join_of (suc n) f m =
      ⊎_elim (λ a. let q = join_of n f a in (q.0, le_step q.1, q.2)) (λ b. (n, lt-suc_self n, b))
      (Memᴰ.append_cases (join n f) m)

  pub in_join : {x : X} (n : ℕ) (f : ℕ → List X) (r : ℕ) → r < n → x ∈ f r → x ∈ join n f
  unfolding join
  in_join zero f r h m = absurd (not-suc-le-zero h)
  in_join {x} (suc n) f r h m =
      ⊎_elim (λ (e : r ≡ n). Memᴰ.append_right (join n f) (subst (λ (k : ℕ). x ∈ f k) e m))
      (λ (l : r < n). Memᴰ.append_left (f n) (in_join n f r l m))
      (eq-or-lt_of_le (le_of_suc-le-suc h))

  pub length_join : (n : ℕ) (f : ℕ → List X) → length (join n f) ≡ sum n (λ r. length (f r))
  unfolding join sum
  length_join zero f = refl
  length_join (suc n) f = length-append (join n f) (f n) ∙ ap (λ (m : ℕ). m + length (f n)) (length_join n f)

  -- a list behind a test
  pub gate_of : {x : X} (b : Bool) (l : List X) → x ∈ gate b l → T b × (x ∈ l)
  unfolding gate
  gate_of true l m = (tt, m)
  gate_of false l m = absurd (Memᴰ.not-nil m)

  pub gate_yes : (b : Bool) (l : List X) → T b → gate b l ≡ l
  unfolding gate
  gate_yes true l t = refl
  gate_yes false l t = absurd t

  pub gate_no : (b : Bool) (l : List X) → (T b → ⊥) → gate b l ≡ []
  unfolding gate
  gate_no true l h = absurd (h tt)
  gate_no false l h = refl

  pub length_gate : (b : Bool) (l : List X) → length (gate b l) ≡ truth b * length l
  unfolding gate
  length_gate true l = omega arith
  length_gate false l = omega arith

  -- elements by their places
  pub in_get_d : (d : X) (l : List X) (a : ℕ) → a < length l → get_or l a d ∈ l
  in_get_d d [] a h = absurd (not-suc-le-zero h)
  in_get_d d (x ∷ xs) zero h = Memᴰ.head refl
  in_get_d d (x ∷ xs) (suc a) h = Memᴰ.tail (in_get_d d xs a (le_of_suc-le-suc h))

  pub place_of_is : {x : X} (d : X) (l : List X) → x ∈ l → (a : ℕ) × (a < length l) × (get_or l a d ≡ x)
  place_of_is d [] m = absurd (Memᴰ.not-nil m)
  place_of_is d (y ∷ ys) m =
      ⊎_elim (λ e. (0, zero-lt-suc (length ys), sym e)) (λ t. let q = place_of_is d ys t in (suc q.0, suc-le-suc q.1, q.2))
      (Memᴰ.cases_cons m)

  -- the elements of a cross are h t u
  pub cross_of : {x : X} (h : X → X → X) (ts us : List X) → x ∈ cross h ts us
      → (t : X) × (u : X) × (t ∈ ts) × (u ∈ us) × (x ≡ h t u)
  unfolding cross
  cross_of h [] us m = absurd (Memᴰ.not-nil m)
  cross_of h (t ∷ ts) us m =
      ⊎_elim (λ a. let q = Memᴰ.of_map (h t) us a in (t, q.0, Memᴰ.head refl, q.1, sym q.2))
      (λ b. let q = cross_of h ts us b in (q.0, q.1, Memᴰ.tail q.2, q.3, q.4))
      (Memᴰ.append_cases (map (h t) us) m)

  pub in_cross : {t u : X} {ts us : List X} (h : X → X → X) → t ∈ ts → u ∈ us → h t u ∈ cross h ts us
  unfolding cross
  in_cross {t} {u} {us = us} h (Memᴰ.head {xs = xs} e) n =
      Memᴰ.append_left (cross h xs us) (subst (λ (s : X). h t u ∈ map (h s) us) e (Memᴰ.map (h t) n))
  in_cross {us = us} h (Memᴰ.tail {x = x} m) n = Memᴰ.append_right (map (h x) us) (in_cross h m n)

  pub length_cross : (h : X → X → X) (ts us : List X) → length (cross h ts us) ≡ length ts * length us
  unfolding cross
  length_cross h [] us = omega arith
  length_cross h (t ∷ ts) us =
      omega (arith, length-append (map (h t) us) (cross h ts us), length-map us (h t), length_cross h ts us)

  -- the element at a place of a join, and of a cross
  pub join_at : (d : X) (n : ℕ) (f : ℕ → List X) (r m : ℕ) → r < n → m < length (f r)
      → get_or (join n f) (sum r (λ s. length (f s)) + m) d ≡ get_or (f r) m d
  unfolding join
  join_at d zero f r m h l = absurd (not-suc-le-zero h)
  join_at d (suc n) f r m h l =
      ⊎_elim
      (λ (e : r ≡ n). subst (λ (q : ℕ). m < length (f q) → get_or (join n f ++ f n) (sum q (λ s. length (f s)) + m) d ≡ get_or (f q) m d) (sym e)
      (λ _. rw (← length_join n f) (get_or-append-add (join n f) (f n) m d)) l)
      (λ (q : r < n). get_or-append (join n f) (f n) d (sum r (λ s. length (f s)) + m) (rw length_join (sum_room n (λ s. length (f s)) r m q l))
      ∙ join_at d n f r m q l)
      (eq-or-lt_of_le (le_of_suc-le-suc h))

  pub cross_at : (d : X) (h : X → X → X) (ts us : List X) (a b : ℕ) → a < length ts → b < length us
      → get_or (cross h ts us) (a * length us + b) d ≡ h (get_or ts a d) (get_or us b d)
  unfolding cross
  cross_at d h [] us a b k l = absurd (not-suc-le-zero k)
  cross_at d h (t ∷ ts) us zero b k l =
      let e : 0 * length us + b ≡ b = omega arith in
      let q : b < length (map (h t) us) = omega (arith, length-map us (h t)) in
      rw e (get_or-append (map (h t) us) (cross h ts us) d b q ∙ map_at (h t) us b d d l)
  cross_at d h (t ∷ ts) us (suc a) b k l =
      let e : suc a * length us + b ≡ length (map (h t) us) + (a * length us + b) = omega (arith, length-map us (h t)) in
      rw e (get_or-append-add (map (h t) us) (cross h ts us) (a * length us + b) d ∙ cross_at d h ts us a b (le_of_suc-le-suc k) l)
