-- Inside: what the rules of one left symbol add to a cell, by the groups of the regrouped rules.
-- Assumes nothing.
use Rattle.std.specs.Prelude.{◌≡◌, List, ℕ, ◌+◌, ◌*◌, ◌^◌, ◌≤◌, ◌<◌, min, max, get_or}
use Rattle.bits.specs.Sum.{sum}
use Rattle.bits.specs.Bit.{bit}
use Rattle.bits.specs.Word.{Has, meet}
use Rattle.derivation.specs.Grammar.{Grammar, pair_rule_count}
use Rattle.groups.specs.Group.{sum_by_left}
use Rattle.marks.specs.Mark.{meetings}
use Rattle.kernel.specs.declared.Fired.{Fired}

-- of a rule with the right symbol's word R and its own symbol's word S, m R telling at how many splits its right symbol stands beside its left one:
-- its matches; and those that conclude A
unfoldable pub matching : (ℕ → ℕ) → ℕ → ℕ → ℕ
matching m R S = m R

unfoldable pub concluding : (ℕ → ℕ) → ℕ → ℕ → ℕ → ℕ
concluding m A R S = m R * bit S A

pub record Applied (g : Grammar) (m : ℕ → ℕ) (a : ℕ) (was now : Fired) : Type 0 where
  pub word : (A : ℕ) → bit now.word A ≡ max (bit was.word A) (min 1 (sum_by_left g a (concluding m A) (pair_rule_count g)))
  pub count : now.count ≡ was.count + sum_by_left g a (matching m) (pair_rule_count g)

-- m for one split, whose right part has the word v; and for all splits at which the left symbol a is marked in block r of t, beside the
-- column's marks u
unfoldable pub over : ℕ → ℕ → ℕ
over v R = meet v R

unfoldable pub along : List ℕ → (r a : ℕ) → List ℕ → ℕ → ℕ
along t r a u R = sum 64 (λ c. meetings t r a u c * bit R c)

-- at the word of one symbol a call may be made, and answers at most 128
abbrev pub Callable : (ℕ → Type 0) → (ℕ → ℕ → Type 0) → Type 0
Callable pre post = (s : ℕ) → s < 64 → pre (2 ^ s) × ((y : ℕ) → post (2 ^ s) y → y ≤ 128)

-- and there answers what m tells
abbrev pub Tells : (ℕ → ℕ → Type 0) → (ℕ → ℕ) → Type 0
Tells post m = (s y : ℕ) → s < 64 → post (2 ^ s) y → y ≡ m (2 ^ s)

-- ---- what the rules of the left symbol a add to an empty cell beside the right word v stands in t at a; and so of each symbol of u
abbrev pub nothing : Fired
nothing = record { word = 0; count = 0 }

pub record ReadyAt (g : Grammar) (v a : ℕ) (t : List Fired) : Type 0 where
  pub made : Applied g (over v) a nothing (get_or t a nothing)

pub record Ready (g : Grammar) (v u : ℕ) (t : List Fired) : Type 0 where
  pub at : (a : ℕ) → Has u a → ReadyAt g v a t
