-- Numbers and sums held at the limit: what a held sum becomes by one term more, and what it says of the sum itself.
-- Assumes nothing.
use Prim.Native.Nat.{ℕ, zero, suc, ◌+◌, ◌-◌, ◌*◌, ◌<◌}
use native.Mathlib.Nat.{le_step, lt-suc_self}
use native.Mathlib.Omega.{arith}
use mathlib.Core.Path.{◌≡◌, refl}
use lib.Dec.{lit<}
use Rattle.bits.specs.Sum.{sum, between}
use Rattle.table.proofs.Capped.{cap_mul}
use Rattle.table.specs.Table.{limit, held}

pub held_mul : (a b : ℕ) → held (held a * held b) ≡ held (a * b)
held_mul a b = cap_mul limit (lit< tt) a b

pub held_once : (a : ℕ) → held (held a) ≡ held a
held_once a = omega arith

-- two numbers that are the same once held: below the limit they are the same, and have the same below them
pub exact : (a b : ℕ) → held a ≡ held b → a < limit → a ≡ b
exact a b e h = omega arith

pub below : (a b r : ℕ) → held a ≡ held b → r < limit → r < a → r < b
below a b r e h l = omega arith

-- sums of terms that are the same once held
pub held_plus : (a b c d : ℕ) → held a ≡ held c → held b ≡ held d → held (a + b) ≡ held (c + d)
held_plus a b c d p q = omega arith

pub held_sum : (n : ℕ) (f h : ℕ → ℕ) → ((x : ℕ) → x < n → held (f x) ≡ held (h x)) → held (sum n f) ≡ held (sum n h)
unfolding sum
held_sum zero f h e = refl
held_sum (suc n) f h e = held_plus (sum n f) (f n) (sum n h) (h n) (held_sum n f h (λ x l. e x (le_step l))) (e n (lt-suc_self n))

pub held_between : (i k : ℕ) (f h : ℕ → ℕ) → ((j : ℕ) → i < j → j < k → held (f j) ≡ held (h j)) → held (between i k f) ≡ held (between i k h)
unfolding between
held_between i k f h e = held_sum (k - (i + 1)) (λ x. f (i + 1 + x)) (λ x. h (i + 1 + x)) (λ x l. e (i + 1 + x) (omega arith) (omega arith))

-- one term more of a held sum
pub held_on : (s t x v y : ℕ) → t ≡ held s → y ≡ held x → v ≡ held (t + y) → v ≡ held (s + x)
held_on s t x v y a b c = omega arith
