-- Promised: where the chart's cells are, and the items and firings, as sums of 0 and 1 over findings.
-- Column q is the stretches that end at q + 1: its event is event q + 1.
-- Assumes nothing.
use Rattle.std.specs.Prelude.{List, ℕ, ◌+◌, ◌-◌, ◌*◌, ◌/◌, ◌^◌, length, get_or}
use Rattle.bits.specs.Truth.{same}
use Rattle.bits.specs.Sum.{sum, between}
use Rattle.derivation.specs.Grammar.{Grammar, event_rule_count, pair_rule_count, event_rule, pair_rule}

-- cell (i, k), 0 ≤ i < k ≤ n, is word k (k - 1) / 2 + i: the cells that end at k stand together, from word `cells_before k` on
unfoldable pub cells_before : ℕ → ℕ
cells_before k = k * (k - 1) / 2

abbrev pub cell_at : ℕ → ℕ → ℕ
cell_at i k = cells_before k + i

-- how many cells a record of n events has
unfoldable pub cells : ℕ → ℕ
cells n = n * (n + 1) / 2

-- ---- findings: 1 where symbol A is found over (i, k), else 0. What is derivable is (`Numbering.Telling`), or what the words of a chart hold
abbrev pub Findings : Type 0
Findings = (i k A : ℕ) → ℕ

-- the word of cell (i, k), of N symbols
unfoldable pub cell : ℕ → Findings → (i k : ℕ) → ℕ
cell N s i k = sum N (λ A. s i k A * 2 ^ A)

-- the items of n events: the one bits of all cells together
unfoldable pub items : (N n : ℕ) → Findings → ℕ
items N n s = sum n (λ q. sum (q + 1) (λ i. sum N (s i (q + 1))))

-- the event rules that turn a symbol into the event e
unfoldable pub event_firings : Grammar → ℕ → ℕ
event_firings g e = sum (event_rule_count g) (λ r. same (event_rule g r).event e)

-- the pair rules whose two premises are found over (i, j) and (j, k), and so at each split of (i, k), whether or not their conclusion is known already
unfoldable pub pair_firings : Grammar → Findings → (i j k : ℕ) → ℕ
pair_firings g s i j k = sum (pair_rule_count g) (λ b. s i j (pair_rule g b).left * s j k (pair_rule g b).right)

unfoldable pub cell_firings : Grammar → Findings → (i k : ℕ) → ℕ
cell_firings g s i k = between i k (λ j. pair_firings g s i j k)

-- the firings of column q, whose event is e: the event rules that match it, and the quadruples (pair rule, i, j, q + 1) with i < j < q + 1
unfoldable pub column_firings : Grammar → (e : ℕ) → Findings → (q : ℕ) → ℕ
column_firings g e s q = event_firings g e + sum q (λ i. cell_firings g s i (q + 1))

-- all of them: the event rules at each place, and the quadruples (pair rule, i, j, k) with i < j < k ≤ n
unfoldable pub firings : Grammar → List ℕ → Findings → ℕ
firings g w s = sum (length w) (λ q. column_firings g (get_or w q 0) s q)

-- no more firings than this: n events, N symbols, B pair rules
unfoldable pub firings_bound : (n N B : ℕ) → ℕ
firings_bound n N B = n * N + B * (n ^ 3 - n) / 6
