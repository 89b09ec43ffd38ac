-- Shown: Request (i), of what the services `reading` and `number` answer and write: number to script and script to number undo each other.
-- Assumes nothing.
use Rattle.std.specs.Prelude.{◌≡◌, List, ℕ, length}
use Rattle.image.specs.Refusal.{First}
use Rattle.readings.specs.Answer.{Read}
use Rattle.readings.specs.Answer.{Found}
use Rattle.readings.specs.Count.{count_rows}
use Rattle.readings.specs.Reading.{ReadingPasses, ReadingIs}
use Rattle.readings.specs.Number.{NumberIs}
use Rattle.readings.specs.Demand.{Gave, written}

-- asked for the number of the words s, with some table, the service succeeded and told q
pub record Told (b w s : List ℕ) (q : ℕ) : Type 0 where
  pub table : List ℕ
  pub r : Found
  pub table' : List ℕ
  pub success : r.refusal ≡ 0
  pub told : r.reading ≡ q
  pub is : NumberIs b w s table r table'

pub record Undo (b w : List ℕ) : Type 0 where
  -- the number told of the script that was given for k is k
  pub back : (k q : ℕ) (o : List ℕ) → Gave b w k o → Told b w (written w o) q → q ≡ k
  -- the script given for the number that was told of s is s
  pub forth : (q : ℕ) (s o : List ℕ) → Told b w s q → Gave b w q o → written w o ≡ s
  -- where the one has answered, the other does too, if the memory lent to it is long enough
  pub told : (k : ℕ) (o : List ℕ) → Gave b w k o → (table : List ℕ) (r : Found) (t : List ℕ) → First (count_rows b (length w) (length table)) 0
      → NumberIs b w (written w o) table r t → r.refusal ≡ 0
  pub given : (q : ℕ) (s : List ℕ) → Told b w s q → (table room : List ℕ) (r : Read) (t o : List ℕ) → ReadingPasses b w table room
      → ReadingIs b w q table room r t o → r.refusal ≡ 0
