-- Promised: bytes as words of a size, so many bytes each, the low byte first.
-- Assumes nothing.
use Rattle.std.specs.Prelude.{ℕ, zero, suc, ◌+◌, ◌*◌, ◌/◌, List, [], ◌∷◌, length, take, drop}

-- the number that bytes show, the low one first
unfoldable pub value : List ℕ → ℕ
value [] = 0
value (b ∷ bs) = b + 256 * value bs

-- the first n words of that size
unfoldable pub first_words : (size n : ℕ) → List ℕ → List ℕ
first_words size zero bs = []
first_words size (suc n) bs = value (take size bs) ∷ first_words size n (drop size bs)

-- all words: as many as are whole, so that a rest of bytes at the end is no word
abbrev pub words : (size : ℕ) → List ℕ → List ℕ
words size bs = first_words size (length bs / size) bs
