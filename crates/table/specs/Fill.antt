-- Inside: the filler in its own terms: what the rules add to the words of a cell, from the words of the table as they stand.
-- No contract of a service mentions these.
-- Assumes nothing.
use Rattle.std.specs.Prelude.{◌≡◌, List, ℕ, ◌+◌, ◌*◌, ◌≤◌, ◌<◌, min, length, get_or}
use Rattle.bits.specs.Truth.{same}
use Rattle.bits.specs.Sum.{sum, between}
use Rattle.bits.specs.Bit.{bit}
use Rattle.bits.specs.Frame.{Framed}
use Rattle.derivation.specs.Grammar.{Grammar, event_rule, pair_rule}
use Rattle.derivation.specs.Derivations.{count}
use Rattle.marks.specs.Mark.{stands, Told}
use Rattle.table.specs.Table.{held, slot_of, table_words}

-- ---- what a rule adds to the words of a cell
-- over the event x alone, event rule r to the word of symbol A
unfoldable pub leaf_adds : Grammar → (x A r : ℕ) → ℕ
leaf_adds g x A r = same (event_rule g r).event x * same (event_rule g r).symbol A

-- over i to k with the split j, the symbols B and C by their words in the table t
unfoldable pub split_adds : List ℕ → (N B C i k j : ℕ) → ℕ
split_adds t N B C i k j = held (get_or t (slot_of N B i j) 0 * get_or t (slot_of N C j k) 0)

-- with every split, pair rule b to the word of symbol A
unfoldable pub pair_adds : Grammar → List ℕ → (i k A b : ℕ) → ℕ
pair_adds g t i k A b =
    same (pair_rule g b).symbol A * between i k (split_adds t g.symbols (pair_rule g b).left (pair_rule g b).right i k)

-- the words that the splits of i to k need are in the table
pub record InReach (t : List ℕ) (N B C i k : ℕ) : Type 0 where
  pub symbols : N ≤ 64
  pub left : B < N
  pub right : C < N
  pub some : i < k
  pub few : k < 65536
  pub fits : table_words N k ≤ length t

-- ---- what a function leaves in the table
-- word A of the n from base on is what the first R rules add, rule r adding F A r
pub record Summed (F : ℕ → ℕ → ℕ) (R base n : ℕ) (old new : List ℕ) : Type 0 where
  pub frame : Framed old new base n
  pub word : (A : ℕ) → A < n → get_or new (base + A) 0 ≡ held (sum R (F A))

-- ---- what is right in the table
-- the word of A over (a, b) is its count
abbrev pub Right : Grammar → List ℕ → List ℕ → ℕ → ℕ → ℕ → Type 0
Right g w t A a b = get_or t (slot_of g.symbols A a b) 0 ≡ held (count g w A a b)

-- the cell of i to k holds its counts, and no other word has changed
pub record CellDone (g : Grammar) (w : List ℕ) (i k : ℕ) (old new : List ℕ) : Type 0 where
  pub frame : Framed old new (slot_of g.symbols 0 i k) g.symbols
  pub word : (A : ℕ) → A < g.symbols → Right g w new A i k

-- the table holds the counts of every stretch that ends before k, and of those from i or later to k
pub record Done (g : Grammar) (w t : List ℕ) (i k : ℕ) : Type 0 where
  pub at : (A a b : ℕ) → A < g.symbols → a < b → b ≤ k → (b ≡ k → i ≤ a) → Right g w t A a b

-- the table has the words that the record needs, and they are its counts
pub record CountsIn (g : Grammar) (w t : List ℕ) : Type 0 where
  pub fits : table_words g.symbols (length w) ≤ length t
  pub at : (A i k : ℕ) → A < g.symbols → i < k → k ≤ length w → Right g w t A i k

-- ---- marks
-- w has those of the first n symbols whose words, from base on, are not 0
pub record Nonzero (t : List ℕ) (base n w : ℕ) : Type 0 where
  pub at : (A : ℕ) → A < n → bit w A ≡ min 1 (get_or t (base + A) 0)

-- the marks show, for the first N symbols, where the words of the two parts of i to k are not 0: what is added up over the splits at which
-- both symbols are marked, G j for each, is added up over those at which neither word is 0
pub record Parts (t : List ℕ) (N : ℕ) (lefts rights : List ℕ) (i k : ℕ) : Type 0 where
  pub few : k ≤ 96
  pub symbols : N ≤ 64
  pub room : 131 ≤ length rights
  pub told_left : Told lefts
  pub told_right : Told rights
  pub inside : (C j : ℕ) → C < N → j < 128 → stands rights 0 C j ≡ 1 → (i < j) × (j < k)
  pub met : (B C : ℕ) → B < N → C < N → (G : ℕ → ℕ)
      → sum 128 (λ j. stands lefts i B j * stands rights 0 C j * G j)
      ≡ between i k (λ j. min 1 (get_or t (slot_of N B i j) 0) * min 1 (get_or t (slot_of N C j k) 0) * G j)
