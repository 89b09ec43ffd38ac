-- Inside: from a derivation to its number. What the rules and splits before it have is what they add to the words of a table (`table: Fill`).
-- Assumes nothing.
use Rattle.std.specs.Prelude.{◌≡◌, List, ℕ, ◌+◌, ◌*◌, get_or}
use Rattle.bits.specs.Sum.{sum, between}
use Rattle.derivation.specs.Grammar.{Grammar, pair_rule}
use Rattle.table.specs.Table.{held, slot_of}
use Rattle.table.specs.Fill.{split_adds, pair_adds}

-- x is a number of which P holds, held at the limit
pub record HeldOf (P : ℕ → Type 0) (x : ℕ) : Type 0 where
  pub number : ℕ
  pub is : P number
  pub shown : x ≡ held number

-- the place, by the words of the table t, of a derivation over i to k by pair rule b and the split j from parts number x and y: behind
-- those by the rules before b, those by b and the splits before j, and those by them both with left parts before x
unfoldable pub place_of : Grammar → List ℕ → (i k b j x y : ℕ) → ℕ
place_of g t i k b j x y =
    sum b (pair_adds g t i k (pair_rule g b).symbol)
    + (between i j (split_adds t g.symbols (pair_rule g b).left (pair_rule g b).right i k) + (x * get_or t (slot_of g.symbols (pair_rule g b).right j k) 0 + y))
