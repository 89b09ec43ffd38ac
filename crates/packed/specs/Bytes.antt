-- Shown: lists of bytes, and what each byte is where they hold the bytes of words.
-- Assumes nothing.
use Rattle.std.specs.Prelude.{◌≡◌, List, ℕ, ◌*◌, ◌/◌, ◌%◌, ◌^◌, ◌≤◌, ◌<◌, length, get_or}

-- each is a byte
abbrev pub Bytes : List ℕ → Type 0
Bytes bs = (x : ℕ) → get_or bs x 0 < 256

-- byte j of a number, the low one being 0
abbrev pub byte_of : (w j : ℕ) → ℕ
byte_of w j = w / 256 ^ j % 256

-- before became after: its first bytes are those of the words ws, word after word, and the others are as they were
pub record Unpacked (size : ℕ) (ws before after : List ℕ) : Type 0 where
  pub long : length after ≡ length before
  pub inside : (x : ℕ) → x < size * length ws → get_or after x 0 ≡ byte_of (get_or ws (x / size) 0) (x % size)
  pub behind : (x : ℕ) → size * length ws ≤ x → get_or after x 0 ≡ get_or before x 0
