-- Inside: marks: at which splits a symbol stands in the left parts of a stretch, by its start, and at which in the right parts, by the column in work.
-- Where they are few, nothing else needs to be visited.
-- There is a block of 131 words for each start, and one for the column. Symbol a has two, for the splits below 64 and for those from 64 on, a split being a bit; then come two for the splits
-- at which any symbol stands, and the set of all symbols that stand anywhere.
-- Assumes nothing.
use Rattle.std.specs.Prelude.{◌≡◌, List, ℕ, ◌+◌, ◌*◌, ◌/◌, ◌%◌, ◌≤◌, ◌<◌, max, length, get_or}
use Rattle.bits.specs.Truth.{same}
use Rattle.bits.specs.Sum.{sum}
use Rattle.bits.specs.Bit.{bit}

-- split j in the two words from `from` on: 0 or 1
unfoldable pub split : List ℕ → (from j : ℕ) → ℕ
split t from j = bit (get_or t (from + j / 64) 0) (j % 64)

-- 1 where symbol a stands at split j in block r, else 0
abbrev pub stands : List ℕ → (r a j : ℕ) → ℕ
stands t r a j = split t (131 * r + 2 * a) j

-- ---- the marks t of block r beside the column's, u
-- at how many splits a stands in the one and c in the other
unfoldable pub meetings : List ℕ → (r a : ℕ) → List ℕ → (c : ℕ) → ℕ
meetings t r a u c = sum 128 (λ j. stands t r a j * stands u 0 c j)

-- they have no split in common
abbrev pub Apart : List ℕ → ℕ → List ℕ → Type 0
Apart t r u = (a c : ℕ) → a < 64 → c < 64 → meetings t r a u c ≡ 0

-- w has the splits, from 64 * half on, at which both stand
abbrev pub CommonIs : List ℕ → (r a : ℕ) → List ℕ → (c half w : ℕ) → Type 0
CommonIs t r a u c half w = (x : ℕ) → x < 64 → bit w x ≡ stands t r a (64 * half + x) * stands u 0 c (64 * half + x)

-- ---- the last words of a block
-- w has every symbol that stands anywhere in block r
abbrev pub SeenIn : List ℕ → (r w : ℕ) → Type 0
SeenIn t r w = (a j : ℕ) → a < 64 → j < 128 → stands t r a j ≤ bit w a

-- a symbol that stands at a split is told by the last words of the block, too
pub record Told (t : List ℕ) : Type 0 where
  pub some : (r a j : ℕ) → a < 64 → j < 128 → stands t r a j ≡ 1 → split t (131 * r + 128) j ≡ 1
  pub seen : (r a j : ℕ) → a < 64 → j < 128 → stands t r a j ≡ 1 → bit (get_or t (131 * r + 130) 0) a ≡ 1

-- ---- what a function leaves
-- t became u: split j of block r has the symbols of w too, and the last words of all blocks are as they were
pub record Entered (t u : List ℕ) (r j w : ℕ) : Type 0 where
  pub long : length u ≡ length t
  pub at : (q a x : ℕ) → a < 64 → x < 128 → stands u q a x ≡ max (stands t q a x) (same r q * same j x * bit w a)
  pub last : (q y : ℕ) → 128 ≤ y → y < 131 → get_or u (131 * q + y) 0 ≡ get_or t (131 * q + y) 0

-- t became u: the symbols of w are marked at split j of block r, and nothing else has changed
pub record Marked (t u : List ℕ) (r j w : ℕ) : Type 0 where
  pub long : length u ≡ length t
  pub at : (q a x : ℕ) → a < 64 → x < 128 → stands u q a x ≡ max (stands t q a x) (same r q * same j x * bit w a)
  pub told : Told t → Told u
