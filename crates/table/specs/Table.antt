-- Promised: the count table: which word counts what, how many words it needs, and what it holds when it is filled.
-- Assumes nothing.
use Rattle.std.specs.Prelude.{◌≡◌, List, ℕ, ◌+◌, ◌*◌, ◌≤◌, ◌<◌, min, length, get_or}
use Rattle.bits.specs.Frame.{Framed}
use Rattle.derivation.specs.Grammar.{Grammar}
use Rattle.derivation.specs.Chart.{cell_at, cells}
use Rattle.derivation.specs.Derivations.{count}

-- the largest number that a word of the table shows, and a number held at it
abbrev pub limit : ℕ
limit = 4294967295

abbrev pub held : ℕ → ℕ
held x = min limit x

-- the word for symbol A of N over cell (i, k), and how many words N symbols over n events need
abbrev pub slot_of : (N A i k : ℕ) → ℕ
slot_of N A i k = cell_at i k * N + A

abbrev pub table_words : (N n : ℕ) → ℕ
table_words N n = N * cells n

-- before became after: each word that is needed is the number of derivations, held at the limit, and no other changed
pub record Filled (g : Grammar) (w before after : List ℕ) : Type 0 where
  pub frame : Framed before after 0 (table_words g.symbols (length w))
  pub counts : (A i k : ℕ) → A < g.symbols → i < k → k ≤ length w → get_or after (slot_of g.symbols A i k) 0 ≡ held (count g w A i k)
