-- Promised: what `reading` answers and what it leaves in the lent table and room, for any image b, any events w, any number k, any table and room.
-- Assumes nothing.
use Rattle.std.specs.Prelude.{◌≡◌, ◌⊎◌, ◌≢◌, List, [], ◌∷◌, ◌++◌, ℕ, ◌≤◌, ◌<◌, length, get_or, drop}
use Rattle.derivation.specs.Tree.{script_word_count}
use Rattle.derivation.specs.Reading.{quiet, spelling}
use Rattle.derivation.specs.Derivations.{readings}
use Rattle.layout.specs.Layout.{decode}
use Rattle.image.specs.Refusal.{Row, ◌unless◌, First}
use Rattle.image.specs.Image.{Names}
use Rattle.table.specs.Table.{limit, Filled}
use Rattle.readings.specs.Count.{how_many, count_rows}
use Rattle.readings.specs.Answer.{Read}

-- refusal 11: need words, a room of space words
abbrev pub room_rows : (need space : ℕ) → List Row
room_rows need space = (11 unless (need ≤ space)) ∷ []

-- 13 applies to number k where there are m readings: k is the limit, and m is at least that
pub record Beyond (k m : ℕ) : Type 0 where
  pub last : k ≡ limit
  pub many : limit ≤ m

-- refusals 12 and 13. 12: k is at or past m, and 13 does not apply
abbrev pub number_rows : (k m : ℕ) → List Row
number_rows k m = (12 unless ((k < m) ⊎ Beyond k m)) ∷ (13 unless (Beyond k m → ⊥)) ∷ []

-- the refusals of the record, and then 10 and 11: nothing is written
abbrev pub lent_rows : (b : List ℕ) (n size need space : ℕ) → List Row
lent_rows b n size need space = count_rows b n size ++ room_rows need space

abbrev pub reading_rows : (b w : List ℕ) (k : ℕ) (table room : List ℕ) → List Row
reading_rows b w k table room = lent_rows b (length w) (length table) (script_word_count (length w)) (length room) ++ number_rows k (how_many (decode b) w)

-- these let a reading pass
abbrev pub ReadingPasses : (b w table room : List ℕ) → Type 0
ReadingPasses b w table room = First (lent_rows b (length w) (length table) (script_word_count (length w)) (length room)) 0

-- success and refusals 12 and 13 leave the table filled
abbrev pub Fills : ℕ → Type 0
Fills n = (n ≡ 0) ⊎ ((n ≡ 12) ⊎ (n ≡ 13))

pub record ReadingIs (b w : List ℕ) (k : ℕ) (table room : List ℕ) (r : Read) (table' room' : List ℕ) : Type 0 where
  pub refusal : First (reading_rows b w k table room) r.refusal
  pub rule : Names (decode b) r.refusal r.rule
  pub filled : Fills r.refusal → Filled (decode b) w table table'
  pub kept : (Fills r.refusal → ⊥) → table' ≡ table
  -- the room begins with the script of reading k, and the rest of it is as it was
  pub written : r.refusal ≡ 0 → room' ≡ spelling (get_or (readings (decode b) w) k quiet) ++ drop (script_word_count (length w)) room
  pub unwritten : r.refusal ≢ 0 → room' ≡ room
