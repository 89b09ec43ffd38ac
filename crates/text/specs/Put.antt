-- Inside: where a text stands in a room.
-- Assumes nothing.
use Rattle.std.specs.Prelude.{◌≡◌, List, ◌++◌, ℕ, ◌≤◌, take, drop}

-- t stands in a room from the place at on, up to the place r, and every other byte of the room is as it was before
pub record Put (t before : List ℕ) (at r : ℕ) (after : List ℕ) : Type 0 where
  pub behind : at ≤ r
  pub written : take r after ≡ take at before ++ t
  pub rest : drop r after ≡ drop r before
