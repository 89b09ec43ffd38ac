-- Laws of a refusal table: it admits one answer only; what the answer 0 says; two tables, one after the other; a number that no row has.
-- Assumes nothing.
use Prim.Native.Nat.{ℕ}
use mathlib.Core.Path.{◌≡◌, refl, sym, ◌∙◌, subst}
use mathlib.Core.Logic.{inl, inr, ◌≢◌}
use mathlib.Core.List.{List, [], ◌∷◌, ◌++◌}
use Rattle.bits.specs.Truth.{All}
use Rattle.image.specs.Refusal.{Row, ◌unless◌, FirstOf, First}
use Rattle.image.specs.Exactly.{Exactly, number_of, AllHold}

-- the three ways to an answer
pub none : First [] 0
none = record { is = refl }

pub fail : {k : ℕ} {P : Type 0} {rows : List Row} → (P → ⊥) → First ((k unless P) ∷ rows) k
fail p = record { is = inl (p, refl) }

pub pass : {k n : ℕ} {P : Type 0} {rows : List Row} → P → First rows n → First ((k unless P) ∷ rows) n
pass p f = record { is = inr (p, f.is) }

-- the table admits one answer only
only : (rows : List Row) (m n : ℕ) → FirstOf rows m → FirstOf rows n → m ≡ n
only [] m n p q = p ∙ sym q
only ((k unless P) ∷ rows) m n (inl p) (inl q) = p.1 ∙ sym q.1
only ((k unless P) ∷ rows) m n (inl p) (inr q) = absurd (p.0 q.0)
only ((k unless P) ∷ rows) m n (inr p) (inl q) = absurd (q.0 p.0)
only ((k unless P) ∷ rows) m n (inr p) (inr q) = only rows m n p.1 q.1

pub first_only : {rows : List Row} {m n : ℕ} → First rows m → First rows n → m ≡ n
first_only {rows} {m} {n} p q = only rows m n p.is q.is

-- no row has the number n
abbrev pub Lacks : ℕ → List Row → Type 0
Lacks n = All (λ row. n ≢ number_of row)

abbrev pub Positive : List Row → Type 0
Positive = Lacks 0

pub first_zero : (rows : List Row) → Positive rows → FirstOf rows 0 → AllHold rows
first_zero [] z p = tt
first_zero ((k unless P) ∷ rows) z (inl p) = absurd (z.0 p.1)
first_zero ((k unless P) ∷ rows) z (inr p) = (p.0, first_zero rows z.1 p.1)

-- the number 0 says that every demand holds
pub all_hold : (rows : List Row) → Positive rows → (n : ℕ) → n ≡ 0 → First rows n → AllHold rows
all_hold rows z n e p = first_zero rows z (subst (FirstOf rows) e p.is)

-- a refusal by the first table is one by both; past the first table the second decides
hit : (rows more : List Row) (n : ℕ) → n ≢ 0 → FirstOf rows n → FirstOf (rows ++ more) n
hit [] more n z p = absurd (z p)
hit ((k unless P) ∷ rows) more n z (inl p) = inl p
hit ((k unless P) ∷ rows) more n z (inr p) = inr (p.0, hit rows more n z p.1)

past : (rows more : List Row) (n : ℕ) → AllHold rows → FirstOf more n → FirstOf (rows ++ more) n
past [] more n h p = p
past ((k unless P) ∷ rows) more n h p = inr (h.0, past rows more n h.1 p)

pub first_hit : (rows more : List Row) {n : ℕ} → n ≢ 0 → First rows n → First (rows ++ more) n
first_hit rows more {n} z p = record { is = hit rows more n z p.is }

pub first_pass : (rows more : List Row) {n : ℕ} → AllHold rows → First more n → First (rows ++ more) n
first_pass rows more {n} h p = record { is = past rows more n h p.is }

pub past_zero : (rows more : List Row) → Positive rows → (r : ℕ) → r ≡ 0 → First rows r → {m : ℕ} → First more m → First (rows ++ more) m
past_zero rows more z r e p q = first_pass rows more (all_hold rows z r e p) q

-- an answer that is no number of the first table comes from the second, and the first passes
split : (rows more : List Row) (n : ℕ) → Lacks n rows → FirstOf (rows ++ more) n → AllHold rows × FirstOf more n
split [] more n u p = (tt, p)
split ((k unless P) ∷ rows) more n u (inl p) = absurd (u.0 p.1)
split ((k unless P) ∷ rows) more n u (inr p) = let q = split rows more n u.1 p.1 in ((p.0, q.0), q.1)

hold_zero : (rows : List Row) → AllHold rows → FirstOf rows 0
hold_zero [] h = refl
hold_zero ((k unless P) ∷ rows) h = inr (h.0, hold_zero rows h.1)

pub reached : (rows more : List Row) (n : ℕ) → Lacks n rows → First (rows ++ more) n → First rows 0
reached rows more n u p = record { is = hold_zero rows (split rows more n u p.is).0 }

pub passed : (rows more : List Row) (n : ℕ) → Lacks n rows → First (rows ++ more) n → First more n
passed rows more n u p = record { is = (split rows more n u p.is).1 }

-- behind rows that hold the others decide
held : (rows more : List Row) (n : ℕ) → AllHold rows → FirstOf (rows ++ more) n → FirstOf more n
held [] more n h p = p
held ((k unless P) ∷ rows) more n h (inl p) = absurd (p.0 h.0)
held ((k unless P) ∷ rows) more n h (inr p) = held rows more n h.1 p.1

pub holding_passed : (rows more : List Row) (n : ℕ) → First rows 0 → Positive rows → First (rows ++ more) n → First more n
holding_passed rows more n h z p = record { is = held rows more n (first_zero rows z h.is) p.is }

-- a table that does not hold decides alone
lone : (rows more : List Row) (n : ℕ) → (AllHold rows → ⊥) → FirstOf (rows ++ more) n → FirstOf rows n
lone [] more n h p = absurd (h tt)
lone ((k unless P) ∷ rows) more n h (inl p) = inl p
lone ((k unless P) ∷ rows) more n h (inr p) = inr (p.0, lone rows more n (λ a. h (p.0, a)) p.1)

pub alone : (rows more : List Row) (n : ℕ) → (AllHold rows → ⊥) → First (rows ++ more) n → First rows n
alone rows more n h p = record { is = lone rows more n h p.is }

-- no table gives a number that no row of it has, but for 0
gives : (rows : List Row) (n : ℕ) → n ≢ 0 → Lacks n rows → FirstOf rows n → ⊥
gives [] n z u p = z p
gives ((k unless P) ∷ rows) n z u (inl p) = u.0 p.1
gives ((k unless P) ∷ rows) n z u (inr p) = gives rows n z u.1 p.1

pub never : (rows : List Row) (n : ℕ) → n ≢ 0 → Lacks n rows → First rows n → ⊥
never rows n z u p = gives rows n z u p.is

-- behind the same rows
follow : (rows more rest : List Row) (n : ℕ) → (FirstOf more n → FirstOf rest n) → FirstOf (rows ++ more) n → FirstOf (rows ++ rest) n
follow [] more rest n f p = f p
follow ((k unless P) ∷ rows) more rest n f (inl p) = inl p
follow ((k unless P) ∷ rows) more rest n f (inr p) = inr (p.0, follow rows more rest n f p.1)

pub behind : (rows more rest : List Row) (n : ℕ) → (FirstOf more n → FirstOf rest n) → First (rows ++ more) n → First (rows ++ rest) n
behind rows more rest n f p = record { is = follow rows more rest n f p.is }

-- ---- demand 1: 0 is given exactly where every demand holds, and a refusal exactly where its own is the first that fails
pub answered_exactly : (rows : List Row) → Positive rows → {n : ℕ} → First rows n → Exactly (n ≡ 0) (AllHold rows)
answered_exactly rows z p = record { only = λ e. all_hold rows z _ e p; whenever = λ h. first_only p (record { is = hold_zero rows h }) }

pub refused_exactly : (before : List Row) (k : ℕ) (P : Type 0) (after : List Row) → k ≢ 0 → Lacks k before → Lacks k after → {n : ℕ}
    → First (before ++ ((k unless P) ∷ after)) n → Exactly (n ≡ k) (AllHold before × (P → ⊥))
refused_exactly before k P after z u v p = record {
  only = λ e. let q = split before ((k unless P) ∷ after) k u (subst (FirstOf (before ++ ((k unless P) ∷ after))) e p.is) in (q.0, own q.1);
  whenever = λ h. first_only p (first_pass before ((k unless P) ∷ after) h.0 (fail h.1));
}
  where
    own : FirstOf ((k unless P) ∷ after) k → P → ⊥
    own (inl f) = f.0
    own (inr f) = absurd (gives after k z v f.1)
