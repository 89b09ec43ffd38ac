-- Decisions, each of which computes: of the same thing said otherwise, of one thing under another, of either of two, of every number below a bound;
-- and where not every number does, one that does not.
-- Assumes nothing.
use Prim.Native.Nat.{ℕ, zero, suc, ◌<◌}
use native.Mathlib.Nat.{lt-suc_self, le_step}
use native.Mathlib.Omega.{arith}
use borrow.Author.Count.{below_none, below_more}
use mathlib.Core.Logic.Dec
use mathlib.Core.Logic.{◌⊎◌, inl, inr, ⊎_elim}
use Rattle.bits.specs.Truth.{Every}

unfoldable pub dec_as : {A B : Type 0} → (A → B) → (B → A) → Dec A → Dec B
dec_as f h (yes a) = yes (f a)
dec_as f h (no a) = no (λ b. a (h b))

unfoldable pub dec_implies : {A B : Type 0} → Dec A → Dec B → Dec (A → B)
dec_implies (yes a) (yes b) = yes (λ _. b)
dec_implies (yes a) (no b) = no (λ f. b (f a))
dec_implies (no a) d = yes (λ x. absurd (a x))

unfoldable pub dec_either : {A B : Type 0} → Dec A → Dec B → Dec (A ⊎ B)
dec_either (yes a) d = yes (inl a)
dec_either (no a) (yes b) = yes (inr b)
dec_either (no a) (no b) = no (λ p. ⊎_elim a b p)

pub every_more : (m : ℕ) (P : ℕ → Type 0) → Every m P × P m → Every (suc m) P
every_more m P p r l = below_more P m p.0 p.1 r (omega arith)

pub every_less : (m : ℕ) (P : ℕ → Type 0) → Every (suc m) P → Every m P × P m
every_less m P f = (λ r l. f r (le_step l), f m (lt-suc_self m))

unfoldable pub dec_every : (m : ℕ) (P : ℕ → Type 0) → ((r : ℕ) → Dec (P r)) → Dec (Every m P)
dec_every zero P d = yes (below_none P)
dec_every (suc m) P d = dec_as (every_more m P) (every_less m P) (Dec.and (dec_every m P d) (d m))

-- the last number of which P fails, where it does not hold of every one
pub some_fails : (m : ℕ) (P : ℕ → Type 0) → ((r : ℕ) → Dec (P r)) → (Every m P → ⊥) → (r : ℕ) × (r < m) × (P r → ⊥)
some_fails zero P d f = absurd (f (below_none P))
some_fails (suc m) P d f = elim (d m) [
  | yes p ↦ let s = some_fails m P d (λ e. f (every_more m P (e, p))) in (s.0, le_step s.1, s.2)
  | no p ↦ (m, lt-suc_self m, p)
]
