-- Shown: Demand 3, of what the service `reading` answers and writes: its numbers and the readings are one to one, in order.
-- Assumes nothing.
use Rattle.std.specs.Prelude.{◌≡◌, List, ℕ, ◌≤◌, ◌<◌, length, take}
use Rattle.derivation.specs.Order.{Before}
use Rattle.derivation.specs.Tree.{script_word_count}
use Rattle.derivation.specs.Reading.{IsReading}
use Rattle.layout.specs.Layout.{decode}
use Rattle.table.specs.Table.{limit}
use Rattle.readings.specs.Answer.{Read}
use Rattle.readings.specs.Count.{how_many}
use Rattle.readings.specs.Reading.{ReadingPasses, ReadingIs}

-- asked for number k, a 32-bit number, with some table and room, the service succeeded and left room'
pub record Gave (b w : List ℕ) (k : ℕ) (room' : List ℕ) : Type 0 where
  pub table : List ℕ
  pub room : List ℕ
  pub r : Read
  pub table' : List ℕ
  pub small : k ≤ limit
  pub success : r.refusal ≡ 0
  pub is : ReadingIs b w k table room r table' room'

-- the words where the script stands
abbrev pub written : (w room' : List ℕ) → List ℕ
written w room' = take (script_word_count (length w)) room'

pub record OneToOne (b w : List ℕ) : Type 0 where
  -- where image, record and lent memory pass, every number below the count and below the limit is answered
  pub each : (k : ℕ) (table room : List ℕ) (r : Read) (t o : List ℕ) → ReadingPasses b w table room
      → k < how_many (decode b) w → k < limit → ReadingIs b w k table room r t o → r.refusal ≡ 0
  -- with the script of a reading
  pub reading : (k : ℕ) (o : List ℕ) → Gave b w k o → IsReading (decode b) w (written w o)
  -- no two numbers with the same one
  pub once : (k m : ℕ) (o v : List ℕ) → Gave b w k o → Gave b w m v → written w o ≡ written w v → k ≡ m
  -- and a smaller number with an earlier one
  pub earlier : (k m : ℕ) (o v : List ℕ) → k < m → Gave b w k o → Gave b w m v → Before (written w o) (written w v)
  -- every reading has a number below the count, and what is answered to that number is this reading
  pub every : (s : List ℕ) → IsReading (decode b) w s → (k : ℕ) × ((k < how_many (decode b) w) × ((o : List ℕ) → Gave b w k o → written w o ≡ s))
  -- and what is answered to some number has no unnumbered reading before it: one whose script comes earlier has a smaller number
  pub first : (k : ℕ) (o s : List ℕ) → Gave b w k o → IsReading (decode b) w s → Before s (written w o)
      → (m : ℕ) × ((m < k) × ((v : List ℕ) → Gave b w m v → written w v ≡ s))
