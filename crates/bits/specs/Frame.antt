-- Promised: words in a row: what a function leaves of the others, and words that are 0.
-- Assumes nothing.
use Rattle.std.specs.Prelude.{◌≡◌, List, ℕ, ◌+◌, ◌≤◌, ◌<◌, length, get_or}

-- only the n words from base on may have changed
pub record Framed (old new : List ℕ) (base n : ℕ) : Type 0 where
  pub long : length new ≡ length old
  pub before : (x : ℕ) → x < base → get_or new x 0 ≡ get_or old x 0
  pub after : (x : ℕ) → base + n ≤ x → get_or new x 0 ≡ get_or old x 0

-- those words are 0
pub record Zeros (t : List ℕ) (base n : ℕ) : Type 0 where
  pub at : (x : ℕ) → x < n → get_or t (base + x) 0 ≡ 0
