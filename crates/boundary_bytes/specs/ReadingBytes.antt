-- Promised: what `reader_reading_bytes` answers and what it leaves in the lent bytes, for any image b, any bytes e of events, two each, any number k, any
-- bytes of a table, four for a word, and any bytes of a room, two for a word.
-- Assumes nothing.
use Rattle.std.specs.Prelude.{◌≡◌, ◌≢◌, List, ◌++◌, ℕ, ◌*◌, ◌/◌, length, get_or, drop}
use Rattle.bits.specs.Frame.{Framed}
use Rattle.packed.specs.Packed.{words}
use Rattle.derivation.specs.Tree.{script_word_count}
use Rattle.derivation.specs.Reading.{quiet, spelling}
use Rattle.derivation.specs.Derivations.{readings}
use Rattle.layout.specs.Layout.{decode}
use Rattle.image.specs.Refusal.{Row, First}
use Rattle.image.specs.Image.{Names}
use Rattle.table.specs.Table.{table_words, Filled}
use Rattle.readings.specs.Answer.{Read}
use Rattle.readings.specs.Count.{how_many}
use Rattle.readings.specs.Reading.{room_rows, number_rows, Fills}
use Rattle.boundary_bytes.specs.CountBytes.{count_byte_rows}

-- the refusals of the record's bytes, and then 10 and 11: so many bytes of events, of a table and of a room; nothing is written
abbrev pub lent_byte_rows : (b : List ℕ) (size table room : ℕ) → List Row
lent_byte_rows b size table room = count_byte_rows b size table ++ room_rows (script_word_count (size / 2)) (room / 2)

abbrev pub reading_byte_rows : (b e : List ℕ) (k : ℕ) (table room : List ℕ) → List Row
reading_byte_rows b e k table room = lent_byte_rows b (length e) (length table) (length room) ++ number_rows k (how_many (decode b) (words 2 e))

pub record ReadingBytesIs (b e : List ℕ) (k : ℕ) (table room : List ℕ) (r : Read) (table' room' : List ℕ) : Type 0 where
  pub refusal : First (reading_byte_rows b e k table room) r.refusal
  pub rule : Names (decode b) r.refusal r.rule
  -- the words that the bytes show are the table, and no byte behind those needed changed
  pub filled : Fills r.refusal → Filled (decode b) (words 2 e) (words 4 table) (words 4 table')
  pub framed : Fills r.refusal → Framed table table' 0 (4 * table_words (decode b).symbols (length e / 2))
  pub kept : (Fills r.refusal → ⊥) → table' ≡ table
  -- the words that the room shows begin with the script of reading k, and no byte behind it changed
  pub written : r.refusal ≡ 0
      → words 2 room' ≡ spelling (get_or (readings (decode b) (words 2 e)) k quiet) ++ drop (script_word_count (length e / 2)) (words 2 room)
  pub rest : r.refusal ≡ 0 → Framed room room' 0 (2 * script_word_count (length e / 2))
  pub unwritten : r.refusal ≢ 0 → room' ≡ room
