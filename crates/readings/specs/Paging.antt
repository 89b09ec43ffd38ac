-- Shown: Request (ix), of what the services `page` and `reading` answer and write: a page has the same words as single calls.
-- Assumes nothing.
use Rattle.std.specs.Prelude.{◌≡◌, List, ℕ, ◌+◌, ◌*◌, ◌≤◌, ◌<◌, length, take, drop}
use Rattle.derivation.specs.Tree.{script_word_count}
use Rattle.image.specs.Refusal.{First}
use Rattle.table.specs.Table.{limit}
use Rattle.readings.specs.Answer.{Read}
use Rattle.readings.specs.Answer.{Paged}
use Rattle.readings.specs.Reading.{lent_rows, ReadingPasses, ReadingIs}
use Rattle.readings.specs.Page.{PageIs}
use Rattle.readings.specs.Demand.{Gave, written}

-- asked for m readings from number k on, a 32-bit number, with some table and room, the service succeeded, told c and left room'
pub record GavePage (b w : List ℕ) (k m c : ℕ) (room' : List ℕ) : Type 0 where
  pub table : List ℕ
  pub room : List ℕ
  pub r : Paged
  pub table' : List ℕ
  pub small : k ≤ limit
  pub success : r.refusal ≡ 0
  pub told : r.written ≡ c
  pub is : PageIs b w k m table room r table' room'

-- the words where script x of a page stands
abbrev pub written_at : (w : List ℕ) (x : ℕ) (room' : List ℕ) → List ℕ
written_at w x room' = take (script_word_count (length w)) (drop (x * script_word_count (length w)) room')

pub record Paging (b w : List ℕ) : Type 0 where
  -- script x of a page from number k on is the script given for k + x
  pub same : (k m c x : ℕ) (o v : List ℕ) → GavePage b w k m c o → x < c → Gave b w (k + x) v → written_at w x o ≡ written w v
  -- and each of these numbers is answered, if the memory lent to it is long enough
  pub given : (k m c x : ℕ) (o : List ℕ) → GavePage b w k m c o → x < c
      → (table room : List ℕ) (r : Read) (t v : List ℕ) → ReadingPasses b w table room → ReadingIs b w (k + x) table room r t v → r.refusal ≡ 0
  -- no more than m are written, and where fewer are, the number behind them is refused
  pub most : (k m c : ℕ) (o : List ℕ) → GavePage b w k m c o → c ≤ m
  pub ends : (k m c : ℕ) (o : List ℕ) → GavePage b w k m c o → c < m
      → (table room : List ℕ) (r : Read) (t v : List ℕ) → ReadingIs b w (k + c) table room r t v → r.refusal ≡ 0 → ⊥
  -- past the refusals on the lent memory, a page from k on is refused exactly as the single reading k is
  pub alike : (k m : ℕ) (table room : List ℕ) (r : Paged) (t o table₁ room₁ : List ℕ) (s : Read) (u v : List ℕ)
      → First (lent_rows b (length w) (length table) (m * script_word_count (length w)) (length room)) 0 → ReadingPasses b w table₁ room₁
      → PageIs b w k m table room r t o → ReadingIs b w k table₁ room₁ s u v → r.refusal ≡ s.refusal
