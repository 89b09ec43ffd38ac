-- Promised: what `reader_judge_bytes` answers and what it leaves in the lent bytes, for any image b, any bytes e of events, two each, and any bytes of a
-- chart, eight for a word.
-- Assumes nothing.
use Rattle.std.specs.Prelude.{◌≡◌, ◌≢◌, List, ◌++◌, ℕ, ◌*◌, ◌/◌, length}
use Rattle.bits.specs.Frame.{Framed}
use Rattle.packed.specs.Packed.{words}
use Rattle.derivation.specs.Chart.{cells}
use Rattle.layout.specs.Layout.{decode}
use Rattle.image.specs.Refusal.{Row, First}
use Rattle.image.specs.Image.{record_byte_rows, Names}
use Rattle.chart.specs.Answer.{Judged}
use Rattle.chart.specs.Judge.{chart_rows, Refused, Answered}

-- the refusals of the record's bytes, and then 9
abbrev pub judge_byte_rows : (b e chart : List ℕ) → List Row
judge_byte_rows b e chart = record_byte_rows b (length e) ++ chart_rows (length e / 2) (length chart / 8)

pub record JudgeBytesIs (b e before : List ℕ) (r : Judged) (after : List ℕ) : Type 0 where
  pub refusal : First (judge_byte_rows b e before) r.refusal
  pub rule : Names (decode b) r.refusal r.rule
  pub refused : r.refusal ≢ 0 → Refused before r after
  -- the words that the bytes show are the chart, and no byte behind those needed changed
  pub answered : r.refusal ≡ 0 → Answered (decode b) (words 2 e) (words 8 before) r (words 8 after)
  pub framed : r.refusal ≡ 0 → Framed before after 0 (8 * cells (length e / 2))
