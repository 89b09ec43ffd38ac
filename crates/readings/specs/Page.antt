-- Promised: what `page` answers and what it leaves in the lent table and room, for any image b, any events w, any numbers k and m, any table and room.
-- Assumes nothing.
use Rattle.std.specs.Prelude.{◌≡◌, ◌≢◌, List, ◌++◌, ℕ, ◌-◌, ◌*◌, min, length, drop}
use Rattle.derivation.specs.Tree.{script_word_count}
use Rattle.derivation.specs.Derivations.{page_of}
use Rattle.layout.specs.Layout.{decode}
use Rattle.image.specs.Refusal.{Row, First}
use Rattle.image.specs.Image.{Names}
use Rattle.table.specs.Table.{held, Filled}
use Rattle.readings.specs.Count.{how_many}
use Rattle.readings.specs.Reading.{number_rows, lent_rows, Fills}
use Rattle.readings.specs.Answer.{Paged}

-- the refusals of a single reading for k, with 11 judged on m scripts
abbrev pub page_rows : (b w : List ℕ) (k m : ℕ) (table room : List ℕ) → List Row
page_rows b w k m table room = lent_rows b (length w) (length table) (m * script_word_count (length w)) (length room) ++ number_rows k (how_many (decode b) w)

-- of the numbers k to k + m - 1, how many a reading has where there are `many`: the numbers end at that count, and at the limit
abbrev pub on_page : (k m many : ℕ) → ℕ
on_page k m many = min m (held many - k)

pub record PageIs (b w : List ℕ) (k m : ℕ) (table room : List ℕ) (r : Paged) (table' room' : List ℕ) : Type 0 where
  pub refusal : First (page_rows b w k m table room) r.refusal
  pub rule : Names (decode b) r.refusal r.rule
  pub filled : Fills r.refusal → Filled (decode b) w table table'
  pub kept : (Fills r.refusal → ⊥) → table' ≡ table
  pub answered : r.refusal ≡ 0 → r.written ≡ on_page k m (how_many (decode b) w)
  pub refused : r.refusal ≢ 0 → r.written ≡ 0
  -- the room begins with the scripts of so many readings from number k on, and the rest of it is as it was
  pub written : r.refusal ≡ 0 → room' ≡ page_of (decode b) w k r.written ++ drop (r.written * script_word_count (length w)) room
  pub unwritten : r.refusal ≢ 0 → room' ≡ room
