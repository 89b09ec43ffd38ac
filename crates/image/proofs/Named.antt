-- The rule that an answer names: there is one only, and which it is.
-- Assumes nothing.
use Prim.Native.Nat.{ℕ, ◌<◌}
use native.Mathlib.Nat.{eq-or-lt_of_le}
use native.Mathlib.Decide.{ℕ_discrete}
use native.Mathlib.Omega.{arith}
use mathlib.Core.Path.{◌≡◌, refl, sym, ◌∙◌, subst}
use mathlib.Core.Logic.{◌≢◌, ⊎_elim}
use Rattle.bits.proofs.Truths.{lt_or_ge}
use Rattle.derivation.specs.Grammar.{Grammar, rule_total}
use Rattle.derivation.specs.Sound.{SymbolsFit, Rises}
use Rattle.rules.specs.Fault.{FirstFault}
use Rattle.image.specs.Image.{Names}

-- ---- one only: of two first faults the earlier one would pass, as all before the later one do
pub fault_only : {m : ℕ} {P : ℕ → Type 0} {r s : ℕ} → FirstFault m P r → FirstFault m P s → r ≡ s
fault_only {r = r} {s = s} p q =
    ⊎_elim (λ l. absurd (p.fault (q.before r l)))
    (λ l. ⊎_elim (λ e. sym e) (λ l. absurd (q.fault (p.before s l))) (eq-or-lt_of_le l))
    (lt_or_ge r s)

pub names_only : {g : Grammar} {n r s : ℕ} → Names g n r → Names g n s → r ≡ s
names_only {g} {n} {r} {s} p q = elim (ℕ_discrete n 6) [
  | yes a ↦ fault_only (p.unfit a) (q.unfit a)
  | no a ↦ elim (ℕ_discrete n 7) [ yes b ↦ fault_only (p.low b) (q.low b) | no b ↦ p.other a b ∙ sym (q.other a b) ]
]

pub names_same : {g : Grammar} {n k r s : ℕ} → n ≡ k → Names g n r → Names g k s → r ≡ s
names_same {g} {n} {k} {r} {s} e p q = names_only (subst (λ (x : ℕ). Names g x r) e p) q

-- ---- which: with 6 and 7 the first fault, and none with any other number, such as one before 6 or behind 7
pub names_none : {g : Grammar} {n r : ℕ} → n ≢ 6 → n ≢ 7 → r ≡ 0 → Names g n r
names_none a b z = record { unfit = λ e. absurd (a e); low = λ e. absurd (b e); other = λ _ _. z }

pub names_before : {g : Grammar} {n r : ℕ} → n < 6 → r ≡ 0 → Names g n r
names_before l = names_none (λ e. omega arith) (λ e. omega arith)

pub names_behind : {g : Grammar} {n r : ℕ} → 7 < n → r ≡ 0 → Names g n r
names_behind l = names_none (λ e. omega arith) (λ e. omega arith)

pub names_unfit : {g : Grammar} {r : ℕ} → FirstFault (rule_total g) (SymbolsFit g) r → Names g 6 r
names_unfit f = record { unfit = λ _. f; low = λ e. absurd (omega arith); other = λ a _. absurd (a refl) }

pub names_low : {g : Grammar} {r : ℕ} → FirstFault (rule_total g) (Rises g) r → Names g 7 r
names_low f = record { unfit = λ e. absurd (omega arith); low = λ _. f; other = λ _ a. absurd (a refl) }
