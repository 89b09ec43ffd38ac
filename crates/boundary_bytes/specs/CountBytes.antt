-- Promised: what `reader_count_bytes` answers and what it leaves in the lent bytes, for any image b, any bytes e of events, two each, and any bytes of a
-- table, four for a word.
-- Assumes nothing.
use Rattle.std.specs.Prelude.{◌≡◌, ◌≢◌, List, ◌++◌, ℕ, ◌*◌, ◌/◌, length}
use Rattle.bits.specs.Frame.{Framed}
use Rattle.packed.specs.Packed.{words}
use Rattle.layout.specs.Layout.{decode}
use Rattle.image.specs.Refusal.{Row, First}
use Rattle.image.specs.Image.{record_byte_rows, Names}
use Rattle.table.specs.Table.{table_words}
use Rattle.readings.specs.Answer.{Counted}
use Rattle.readings.specs.Count.{table_rows, Refused, Answered}

-- the refusals of the record's bytes, and then 10: so many bytes of events and of a table
abbrev pub count_byte_rows : (b : List ℕ) (size table : ℕ) → List Row
count_byte_rows b size table = record_byte_rows b size ++ table_rows b (size / 2) (table / 4)

pub record CountBytesIs (b e before : List ℕ) (r : Counted) (after : List ℕ) : Type 0 where
  pub refusal : First (count_byte_rows b (length e) (length before)) r.refusal
  pub rule : Names (decode b) r.refusal r.rule
  pub refused : r.refusal ≢ 0 → Refused before r after
  -- the words that the bytes show are the table, and no byte behind those needed changed
  pub answered : r.refusal ≡ 0 → Answered (decode b) (words 2 e) (words 4 before) r (words 4 after)
  pub framed : r.refusal ≡ 0 → Framed before after 0 (4 * table_words (decode b).symbols (length e / 2))
