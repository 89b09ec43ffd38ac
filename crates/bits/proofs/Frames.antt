-- Words in a row, stored one by one: the others stay, and those that were made 0 are 0.
-- Assumes nothing.
use mathlib.Core.Path.{◌≡◌, refl, ◌∙◌}
use mathlib.Core.Logic.{⊎_elim}
use mathlib.Core.List.{List}
use Prim.Native.Nat.{ℕ, ◌+◌, ◌-◌, ◌≤◌, ◌<◌}
use native.Mathlib.Decide.{ℕ_discrete}
use native.Mathlib.Omega.{arith}
use lib.ListN.{length, get_or, set, length-set}
use lib.Seq.{get_or-set_same, get_or-set_other}
use Rattle.bits.specs.Frame.{Framed, Zeros}
use Rattle.bits.proofs.Truths.{lt_or_ge}

-- words that agree before a row, in it and behind it all agree
pub around : (c d : List ℕ) (base n : ℕ) → ((y : ℕ) → y < base → get_or c y 0 ≡ get_or d y 0)
    → ((x : ℕ) → x < n → get_or c (base + x) 0 ≡ get_or d (base + x) 0) → ((y : ℕ) → base + n ≤ y → get_or c y 0 ≡ get_or d y 0)
    → (y : ℕ) → get_or c y 0 ≡ get_or d y 0
around c d base n before inside behind y = ⊎_elim (before y)
    (λ (l : base ≤ y). ⊎_elim (λ (o : y < base + n).
    let z : base + (y - base) ≡ y = omega arith in rw z at (inside (y - base) (omega arith))) (behind y) (lt_or_ge y (base + n)))
    (lt_or_ge y base)

pub framed_none : (l : List ℕ) (b n : ℕ) → Framed l l b n
framed_none l b n = record { long = refl; before = λ x h. refl; after = λ x h. refl }

pub framed_set : (old l : List ℕ) (b n A v : ℕ) → Framed old l b n → A < n → Framed old (set l (b + A) v) b n
framed_set old l b n A v f h = record {
  long = length-set l (b + A) v ∙ f.long;
  before = λ x p. get_or-set_other l (b + A) x v 0 (λ e. omega arith) ∙ f.before x p;
  after = λ x p. get_or-set_other l (b + A) x v 0 (λ e. omega arith) ∙ f.after x p;
}

pub framed_wider : (a b : List ℕ) (base n m : ℕ) → n ≤ m → Framed a b base n → Framed a b base m
framed_wider a b base n m l f = record { long = f.long; before = f.before; after = λ x h. f.after x (omega arith) }

-- a row in a row
pub framed_within : (a b c : List ℕ) (base n at m : ℕ) → base ≤ at → at + m ≤ base + n → Framed a b base n → Framed b c at m → Framed a c base n
framed_within a b c base n at m low high f h = record {
  long = h.long ∙ f.long;
  before = λ x p. h.before x (omega arith) ∙ f.before x p;
  after = λ x p. h.after x (omega arith) ∙ f.after x p;
}

pub framed_on : (a b c : List ℕ) (base n : ℕ) → Framed a b base n → Framed b c base n → Framed a c base n
framed_on a b c base n = framed_within a b c base n base n (omega arith) (omega arith)

pub zeros_none : (l : List ℕ) (b : ℕ) → Zeros l b 0
zeros_none l b = record { at = λ x h. absurd (omega arith) }

pub zeros_more : (l : List ℕ) (b n : ℕ) → Zeros l b n → b + n < length l → Zeros (set l (b + n) 0) b (n + 1)
zeros_more l b n z h = record {
  at = λ x p. elim (ℕ_discrete x n) [
    | yes e ↦ rw e (get_or-set_same l (b + n) 0 0 h)
    | no d ↦ get_or-set_other l (b + n) (b + x) 0 0 (λ e. d (omega arith)) ∙ z.at x (omega arith)
  ];
}
