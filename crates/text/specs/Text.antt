-- Promised: text as bytes: a number in decimal, a line of numbers; and bytes as 16-bit words.
-- Assumes nothing.
use Rattle.std.specs.Prelude.{ℕ, zero, suc, ◌+◌, ◌*◌, ◌/◌, ◌%◌, cond, List, [], ◌∷◌, ◌++◌, ltb}

-- the decimal digits of n, the most significant first, no zero in front; whole where n is below 10 to the power of the fuel
unfoldable pub text_by : (fuel n : ℕ) → List ℕ
text_by zero n = []
text_by (suc fuel) n = cond (ltb n 10) ((48 + n) ∷ []) (text_by fuel (n / 10) ++ ((48 + n % 10) ∷ []))

-- a number below 10 to the power of 20 in decimal: all that 64 bits hold
unfoldable pub text : ℕ → List ℕ
text n = text_by 20 n

-- the rest of a line: each number behind one space, and the newline
unfoldable pub more : List ℕ → List ℕ
more [] = 10 ∷ []
more (x ∷ xs) = 32 ∷ (text x ++ more xs)

-- a line: the numbers parted by one space, and the newline; of no numbers the newline alone
unfoldable pub line : List ℕ → List ℕ
line [] = 10 ∷ []
line (x ∷ xs) = text x ++ more xs

-- bytes as 16-bit words, the low byte first; a byte left over at the end is no word
unfoldable pub words : List ℕ → List ℕ
words [] = []
words (a ∷ []) = []
words (a ∷ b ∷ bs) = (a + 256 * b) ∷ words bs
