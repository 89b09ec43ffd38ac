-- Inside: what the marks show while cells are filled, column after column, each from its last cell down: when (i, k) is filled, the columns before k, and
-- of column k the cells from i on. P x j a tells, 1 or 0, whether symbol a stands over x to j, for the first m symbols.
-- Short records are filled without marks, and nothing is said of them then.
-- Assumes nothing.
use Rattle.std.specs.Prelude.{◌≡◌, ◌⊎◌, List, ℕ, ◌≤◌, ◌<◌, length}
use Rattle.marks.specs.Mark.{stands, Told, Marked}

-- there are marks: a block for each of 96 starts
abbrev pub InUse : List ℕ → Type 0
InUse t = 12576 ≤ length t

-- cell (x, j) is filled when (i, k) is; or not yet
abbrev pub Filled : (i k x j : ℕ) → Type 0
Filled i k x j = (j < k) ⊎ ((j ≡ k) × (i ≤ x))

abbrev pub Ahead : (i k x j : ℕ) → Type 0
Ahead i k x j = (k < j) ⊎ ((j ≡ k) × (x < i))

-- block x shows the filled cells that begin at x
pub record Lefts (m : ℕ) (P : ℕ → ℕ → ℕ → ℕ) (t : List ℕ) (i k : ℕ) : Type 0 where
  pub few : k ≤ 96
  pub symbols : m ≤ 64
  pub told : Told t
  pub left : (x j a : ℕ) → x < j → Filled i k x j → a < m → stands t x a j ≡ P x j a
  pub ahead : (x j a : ℕ) → x < 96 → j < 128 → Ahead i k x j → a < m → stands t x a j ≡ 0

-- the column's marks show its filled cells, and nothing else
pub record Rights (m : ℕ) (P : ℕ → ℕ → ℕ → ℕ) (u : List ℕ) (i k : ℕ) : Type 0 where
  pub room : 131 ≤ length u
  pub told : Told u
  pub right : (j a : ℕ) → i ≤ j → j < k → a < m → stands u 0 a j ≡ P j k a
  pub outside : (j a : ℕ) → j < 128 → (j < i) ⊎ (k ≤ j) → a < m → stands u 0 a j ≡ 0

-- both, where there are marks
abbrev pub Shown : (m : ℕ) (P : ℕ → ℕ → ℕ → ℕ) (t u : List ℕ) (i k : ℕ) → Type 0
Shown m P t u i k = InUse t → Lefts m P t i k × Rights m P u i k

-- t and u became v and x: the symbols of w are marked as those of cell (i, k), where there are marks
pub record CellMarked (t v u x : List ℕ) (i k w : ℕ) : Type 0 where
  pub long : length v ≡ length t
  pub marked : InUse t → Marked t v i k w × Marked u x 0 i w
