-- Inside: the rules over words as they stand: which of them match, which symbols they conclude. No derivation is mentioned here.
-- A word is a set of symbols: bit A of it is one where it holds A. Marks say at which splits a symbol stands.
-- Assumes nothing.
use Rattle.std.specs.Prelude.{◌≡◌, List, ℕ, ◌+◌, ◌*◌, ◌/◌, ◌%◌, ◌<◌, min, max, get_or}
use Rattle.bits.specs.Truth.{same}
use Rattle.bits.specs.Sum.{sum}
use Rattle.bits.specs.Bit.{bit}
use Rattle.derivation.specs.Grammar.{Grammar, pair_rule_count, event_rule, pair_rule}
use Rattle.derivation.specs.Chart.{event_firings}
use Rattle.marks.specs.Mark.{meetings}
use Rattle.kernel.specs.Conclude.{hit, conclusions, leaf_conclusions}
use Rattle.kernel.specs.declared.Fired.{Fired}

-- how many pair rules match over u and v
unfoldable pub hits : Grammar → (u v : ℕ) → ℕ
hits g u v = sum (pair_rule_count g) (hit g u v)

-- what a number of matches of a rule with the own symbol's word S makes of a word and a count
pub record Noted (matches S : ℕ) (was now : Fired) : Type 0 where
  pub word : (A : ℕ) → bit now.word A ≡ max (bit was.word A) (min 1 matches * bit S A)
  pub count : now.count ≡ was.count + matches

-- what all pair rules over u and v make of a word and a count: each symbol that one of them concludes goes in, and each match counts
pub record Concluded (g : Grammar) (u v : ℕ) (was now : Fired) : Type 0 where
  pub word : (A : ℕ) → bit now.word A ≡ max (bit was.word A) (min 1 (conclusions g u v A))
  pub count : now.count ≡ was.count + hits g u v

-- what all pair rules make of the marks t of block r beside the column's, u: each split at which both symbols of a rule stand is a match
unfoldable pub met : Grammar → List ℕ → ℕ → List ℕ → ℕ → ℕ
met g t r u b = meetings t r (pair_rule g b).left u (pair_rule g b).right

pub record Met (g : Grammar) (t : List ℕ) (r : ℕ) (u : List ℕ) (f : Fired) : Type 0 where
  pub word : (A : ℕ) → bit f.word A ≡ min 1 (sum (pair_rule_count g) (λ b. met g t r u b * same (pair_rule g b).symbol A))
  pub count : f.count ≡ sum (pair_rule_count g) (met g t r u)

-- the word of one event: the symbols that an event rule turns into it, and how many rules do
pub record LeafFired (g : Grammar) (e : ℕ) (f : Fired) : Type 0 where
  pub word : (A : ℕ) → bit f.word A ≡ min 1 (leaf_conclusions g e A)
  pub count : f.count ≡ event_firings g e

-- ---- which events there are rules for, by their last ten bits
-- 1 where e, or an event that ends like it, is in the set, else 0
unfoldable pub hears : List ℕ → ℕ → ℕ
hears t e = bit (get_or t (e % 1024 / 64) 0) (e % 64)

-- the events of the first n event rules are in the set
pub record Heard (g : Grammar) (t : List ℕ) (n : ℕ) : Type 0 where
  pub at : (r : ℕ) → r < n → hears t (event_rule g r).event ≡ 1
