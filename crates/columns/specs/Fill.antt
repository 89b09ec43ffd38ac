-- Inside: the filler in its own terms: 01's two rules applied to the words of the chart as they stand. No derivation is mentioned here;
-- `proofs/Bridge` shows that words filled like this are the chart of the definitions.
-- Assumes nothing.
use Rattle.std.specs.Prelude.{◌≡◌, ◌≢◌, Bool, List, ℕ, ◌≤◌, ◌<◌, min, max, length, get_or}
use Rattle.bits.specs.Truth.{Decides}
use Rattle.bits.specs.Sum.{sum}
use Rattle.bits.specs.Bit.{bit}
use Rattle.bits.specs.Frame.{Framed}
use Rattle.derivation.specs.Grammar.{Grammar}
use Rattle.derivation.specs.Chart.{cell_at, cells, cell_firings, column_firings}
use Rattle.kernel.specs.Fire.{hits}
use Rattle.kernel.specs.Conclude.{conclusions}
use Rattle.kernel.specs.declared.Fired.{Fired}
use Rattle.columns.specs.NewColumn.{rd, in_chart, cell_conclusions, Column}

-- f is the word of cell (i, k), bit A of it one exactly where some rule and split conclude A, and its firings
pub record CellIs (g : Grammar) (c : List ℕ) (i k : ℕ) (f : Fired) : Type 0 where
  pub word : (A : ℕ) → bit f.word A ≡ min 1 (cell_conclusions g c i k A)
  pub count : f.count ≡ cell_firings g (in_chart c) i k

-- before became after: cell (i, k) is worked out from the other words, of which none changed, n its firings
pub record CellFilled (g : Grammar) (i k : ℕ) (before after : List ℕ) (n : ℕ) : Type 0 where
  pub long : length after ≡ length before
  pub other : (y : ℕ) → y ≢ cell_at i k → get_or after y 0 ≡ get_or before y 0
  pub cell : CellIs g before i k (record { word = rd after i k; count = n })

-- the symbols of all these words are in u
pub record Standing (words : List ℕ) (u : ℕ) : Type 0 where
  pub among : (i : ℕ) → i < length words → (A : ℕ) → bit (get_or words i 0) A ≤ bit u A

-- split j of the cells that end at k is pushed into the first m of them: what the rules conclude over the words of (i, j) and (j, k) stands in the
-- word of (i, k) too, and n is how often they match; no other word changed
pub record Pushed (g : Grammar) (j k : ℕ) (before after : List ℕ) (m n : ℕ) : Type 0 where
  pub frame : Framed before after (cell_at 0 k) m
  pub cell : (i : ℕ) → i < m → (A : ℕ) → bit (rd after i k) A ≡ max (bit (rd before i k) A) (min 1 (conclusions g (rd before i j) (rd before j k) A))
  pub counted : n ≡ sum m (λ i. hits g (rd before i j) (rd before j k))

-- the first n columns filled, m their firings
pub record Columns (g : Grammar) (w before after : List ℕ) (n m : ℕ) : Type 0 where
  pub column : (q : ℕ) → q < n → Column g (get_or w q 0) after q
  pub counted : m ≡ sum n (λ q. column_firings g (get_or w q 0) (in_chart after) q)
  pub past : (y : ℕ) → cells n ≤ y → get_or after y 0 ≡ get_or before y 0

-- ---- the one bits of the first n words
unfoldable pub ones_to : List ℕ → ℕ → ℕ
ones_to c n = sum n (λ y. sum 64 (bit (get_or c y 0)))

-- ---- the verdict on n events: the start symbol in the cell of them all, and where there are none the grammar's flag
pub record TopHas (g : Grammar) (c : List ℕ) (n : ℕ) (ok : Bool) : Type 0 where
  pub empty : n ≡ 0 → Decides ok (g.quiet ≡ 1)
  pub events : 0 < n → Decides ok (bit (rd c 0 n) 0 ≡ 1)
