-- Promised: a column of the chart, from the words of the older ones as they stand. Column q is the stretches that end at q + 1.
-- Assumes nothing.
use Rattle.std.specs.Prelude.{◌≡◌, List, ℕ, ◌+◌, ◌<◌, min, get_or}
use Rattle.bits.specs.Sum.{between}
use Rattle.bits.specs.Bit.{bit}
use Rattle.bits.specs.Frame.{Framed}
use Rattle.derivation.specs.Grammar.{Grammar}
use Rattle.derivation.specs.Chart.{cell_at, Findings, column_firings}
use Rattle.kernel.specs.Conclude.{conclusions, leaf_conclusions}

-- the word of cell (i, k)
abbrev pub rd : List ℕ → ℕ → ℕ → ℕ
rd c i k = get_or c (cell_at i k) 0

-- whether it holds A
abbrev pub in_chart : List ℕ → Findings
in_chart c i k A = bit (rd c i k) A

-- ---- a cell of more than one event
-- of the pairs of a rule and a split j, i < j < k, that have both premises in the words of (i, j) and (j, k), how many conclude A
unfoldable pub cell_conclusions : Grammar → List ℕ → (i k A : ℕ) → ℕ
cell_conclusions g c i k A = between i k (λ j. conclusions g (rd c i j) (rd c j k) A)

-- ---- columns: column q is cells (0, q + 1) to (q, q + 1)
-- the cell of one event comes from the event rules, the others from the rest of the chart
pub record Column (g : Grammar) (e : ℕ) (c : List ℕ) (q : ℕ) : Type 0 where
  pub leaf : (A : ℕ) → bit (rd c q (q + 1)) A ≡ min 1 (leaf_conclusions g e A)
  pub inner : (i : ℕ) → i < q → (A : ℕ) → bit (rd c i (q + 1)) A ≡ min 1 (cell_conclusions g c i (q + 1) A)

-- column q is worked out from the older columns' words as they stand, n its firings: no other word changed
pub record ColumnFilled (g : Grammar) (e : ℕ) (before after : List ℕ) (q n : ℕ) : Type 0 where
  pub column : Column g e after q
  pub counted : n ≡ column_firings g e (in_chart after) q
  pub frame : Framed before after (cell_at 0 (q + 1)) (q + 1)
