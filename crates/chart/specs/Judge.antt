-- Promised: what `judge` answers and what it leaves in the lent chart, for any image b, any events w and any chart.
-- Assumes nothing.
use Rattle.std.specs.Prelude.{◌≡◌, ◌≢◌, false, List, [], ◌∷◌, ◌++◌, ℕ, ◌≤◌, ◌<◌, length, get_or}
use Rattle.bits.specs.Truth.{Decides}
use Rattle.bits.specs.Bit.{bit}
use Rattle.bits.specs.Frame.{Framed}
use Rattle.derivation.specs.Grammar.{Grammar, pair_rule_count}
use Rattle.derivation.specs.Reading.{Admitted}
use Rattle.derivation.specs.Numbering.{Tells, Telling}
use Rattle.derivation.specs.Chart.{cell_at, cells, Findings, items, firings, firings_bound}
use Rattle.layout.specs.Layout.{decode}
use Rattle.image.specs.Refusal.{Row, ◌unless◌, First}
use Rattle.image.specs.Image.{record_rows, Names}
use Rattle.chart.specs.Answer.{Judged}

-- the refusals of the record, and then 9
abbrev pub chart_rows : (n size : ℕ) → List Row
chart_rows n size = (9 unless (cells n ≤ size)) ∷ []

abbrev pub judge_rows : (b w chart : List ℕ) → List Row
judge_rows b w chart = record_rows b (length w) ++ chart_rows (length w) (length chart)

-- bit A of the word of cell (i, k) is one exactly when [A, i, k] is derivable, and else zero
pub record Shows (g : Grammar) (w chart : List ℕ) : Type 0 where
  pub at : (A i k : ℕ) → i < k → k ≤ length w → Tells g w A i k (bit (get_or chart (cell_at i k) 0) A)

-- a refusal: zeros but for the rule, and the chart as it was
pub record Refused (before : List ℕ) (r : Judged) (after : List ℕ) : Type 0 where
  pub admitted : r.admitted ≡ false
  pub items : r.items ≡ 0
  pub firings : r.firings ≡ 0
  pub kept : after ≡ before

-- success: the chart of g and w, and what is counted, whatever s tells what is derivable; words past those needed keep their values
pub record Answered (g : Grammar) (w before : List ℕ) (r : Judged) (after : List ℕ) : Type 0 where
  pub chart : Shows g w after
  pub frame : Framed before after 0 (cells (length w))
  pub admitted : Decides r.admitted (Admitted g w)
  pub items : (s : Findings) → Telling g w s → r.items ≡ items g.symbols (length w) s
  pub firings : (s : Findings) → Telling g w s → r.firings ≡ firings g w s
  pub bound : r.firings ≤ firings_bound (length w) g.symbols (pair_rule_count g)

pub record JudgeIs (b w before : List ℕ) (r : Judged) (after : List ℕ) : Type 0 where
  pub refusal : First (judge_rows b w before) r.refusal
  pub rule : Names (decode b) r.refusal r.rule
  pub refused : r.refusal ≢ 0 → Refused before r after
  pub answered : r.refusal ≡ 0 → Answered (decode b) w before r after
