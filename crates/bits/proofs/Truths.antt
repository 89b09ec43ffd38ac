-- Laws of answers: what one says, that there is one only, and how it carries over; of `same`; and of two numbers.
-- Assumes nothing.
use mathlib.Core.Path.{◌≡◌, refl, sym, ap, ◌∙◌, subst}
use mathlib.Core.Bool.{Bool, true, false, not}
use mathlib.Core.Logic.{◌⊎◌, inl, inr}
use Prim.Native.Nat.{ℕ, zero, suc, ◌≤◌, ◌<◌}
use native.Mathlib.Decide.{dec_lt, ℕ_discrete}
use native.Mathlib.Omega.{arith}
use borrow.Author.Tests.{eq-eqb, ne_eqb, not-true, not-false}
use lib.Dec.{eqb}
use Rattle.bits.specs.Truth.{Decides, same}

-- ---- answers
-- a test of one thing is a test of another that is the same
pub decides_as : {P Q : Type 0} (ok : Bool) → (P → Q) → (Q → P) → Decides ok P → Decides ok Q
decides_as true f h d = f d
decides_as false f h d = λ q. d (h q)

-- the test `r == n`, where r is x
pub decides_eq : (r n : ℕ) {x : ℕ} → r ≡ x → Decides (eqb r n) (x ≡ n)
decides_eq r n e = elim (ℕ_discrete r n) [ yes h ↦ rw (eq-eqb r n h) (sym e ∙ h) | no h ↦ rw (ne_eqb r n h) (λ y. h (e ∙ y)) ]

-- what the answer says
pub holds : (P : Type 0) (ok : Bool) → ok ≡ true → Decides ok P → P
holds P ok e d = subst (λ (t : Bool). Decides t P) e d

pub fails : (P : Type 0) (ok : Bool) → ok ≡ false → Decides ok P → P → ⊥
fails P ok e d = subst (λ (t : Bool). Decides t P) e d

-- the same where the code tests `!ok`
pub yes_of : (P : Type 0) (ok : Bool) → not ok ≡ false → Decides ok P → P
yes_of P ok e = holds P ok (not-false ok e)

pub no_of : (P : Type 0) (ok : Bool) → not ok ≡ true → Decides ok P → P → ⊥
no_of P ok e = fails P ok (not-true ok e)

-- one answer only
pub decides_only : (P : Type 0) (a b : Bool) → Decides a P → Decides b P → a ≡ b
decides_only P true true p q = refl
decides_only P true false p q = absurd (q p)
decides_only P false true p q = absurd (p q)
decides_only P false false p q = refl

-- ---- of two numbers
pub lt_or_ge : (m n : ℕ) → (m < n) ⊎ (n ≤ m)
lt_or_ge m n = elim (dec_lt m n) [ yes p ↦ inl p | no h ↦ inr (omega arith) ]

-- ---- equal, as a number
pub same_refl : (a : ℕ) → same a a ≡ 1
unfolding same
same_refl zero = refl
same_refl (suc a) = same_refl a

pub same_eq : (a b : ℕ) → a ≡ b → same a b ≡ 1
same_eq a b e = rw e (same_refl b)

pub same_other : (a b : ℕ) → (a ≡ b → ⊥) → same a b ≡ 0
unfolding same
same_other zero zero h = absurd (h refl)
same_other zero (suc b) h = refl
same_other (suc a) zero h = refl
same_other (suc a) (suc b) h = same_other a b (λ e. h (ap suc e))

pub same_lt : (a b : ℕ) → same a b < 2
unfolding same
same_lt zero zero = omega arith
same_lt zero (suc b) = omega arith
same_lt (suc a) zero = omega arith
same_lt (suc a) (suc b) = same_lt a b
