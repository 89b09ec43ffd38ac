-- Inside: words that were stored in bytes.
-- Assumes nothing.
use Rattle.std.specs.Prelude.{◌≡◌, List, ◌++◌, ℕ, ◌*◌, take, drop}
use Rattle.bits.specs.Frame.{Framed}
use Rattle.packed.specs.Packed.{value, words}

-- before became after: w stands in the bytes from the place at on, and no other byte changed
pub record PutWord (size at w : ℕ) (before after : List ℕ) : Type 0 where
  pub frame : Framed before after at size
  pub shown : value (take size (drop at after)) ≡ w

-- before became after: the words that the bytes show begin with the first n of ws, and no byte behind these changed
pub record PutWords (size n : ℕ) (ws before after : List ℕ) : Type 0 where
  pub frame : Framed before after 0 (size * n)
  pub shown : words size after ≡ take n ws ++ drop n (words size before)
