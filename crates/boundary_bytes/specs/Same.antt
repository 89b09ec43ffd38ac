-- Shown: Request (x), of what the services over bytes answer and leave: each answers as the one over words does on the words that the bytes show, with the
-- same numbers, and each byte of lent memory is one of the words that this one leaves, or as it was.
-- Assumes nothing.
use Rattle.std.specs.Prelude.{◌≡◌, List, ℕ, ◌%◌, length}
use Rattle.packed.specs.Packed.{words}
use Rattle.packed.specs.Bytes.{Bytes, Unpacked}
use Rattle.chart.specs.Answer.{Judged}
use Rattle.chart.specs.Judge.{JudgeIs}
use Rattle.readings.specs.Answer.{Counted}
use Rattle.readings.specs.Answer.{Read}
use Rattle.readings.specs.Count.{CountIs}
use Rattle.readings.specs.Reading.{ReadingIs}
use Rattle.boundary_bytes.specs.JudgeBytes.{JudgeBytesIs}
use Rattle.boundary_bytes.specs.CountBytes.{CountBytesIs}
use Rattle.boundary_bytes.specs.ReadingBytes.{ReadingBytesIs}

-- the events are whole: with an odd number of bytes there are no words to compare, and 8 or 14 is given behind the refusals of the image
abbrev pub Whole : List ℕ → Type 0
Whole e = length e % 2 ≡ 0

pub record Same (b e : List ℕ) : Type 0 where
  pub judge : (before after : List ℕ) (r s : Judged) (chart : List ℕ) → Bytes after
      → JudgeBytesIs b e before r after → JudgeIs b (words 2 e) (words 8 before) s chart → (r ≡ s) × Unpacked 8 chart before after
  pub count : (before after : List ℕ) (r s : Counted) (table : List ℕ) → Bytes after
      → CountBytesIs b e before r after → CountIs b (words 2 e) (words 4 before) s table → (r ≡ s) × Unpacked 4 table before after
  pub reading : (k : ℕ) (before room after room' : List ℕ) (r s : Read) (table script : List ℕ) → Bytes after → Bytes room'
      → ReadingBytesIs b e k before room r after room' → ReadingIs b (words 2 e) k (words 4 before) (words 2 room) s table script
      → (r ≡ s) × Unpacked 4 table before after × Unpacked 2 script room room'
