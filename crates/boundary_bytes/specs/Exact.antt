-- Shown: what the answer 0 of the services over bytes says of image, record and lent bytes.
-- Assumes nothing.
use Rattle.std.specs.Prelude.{◌≡◌, List, ℕ, ◌/◌, ◌%◌, ◌≤◌}
use Rattle.derivation.specs.Tree.{script_word_count}
use Rattle.derivation.specs.Chart.{cells}
use Rattle.layout.specs.Layout.{decode}
use Rattle.image.specs.Image.{most_event_bytes}
use Rattle.image.specs.Accepted.{Accepted}
use Rattle.table.specs.Table.{table_words}

-- an accepted image, and so many bytes of a record that is neither too long nor has half an event
pub record Readable (b : List ℕ) (size : ℕ) : Type 0 where
  pub image : Accepted b
  pub few : size ≤ most_event_bytes
  pub whole : size % 2 ≡ 0

-- and so many bytes of a chart, which hold its words
pub record JudgeableBytes (b : List ℕ) (size chart : ℕ) : Type 0 where
  pub events : Readable b size
  pub fits : cells (size / 2) ≤ chart / 8

-- or of a table
pub record CountableBytes (b : List ℕ) (size table : ℕ) : Type 0 where
  pub events : Readable b size
  pub fits : table_words (decode b).symbols (size / 2) ≤ table / 4

-- and of a room
pub record LendableBytes (b : List ℕ) (size table room : ℕ) : Type 0 where
  pub count : CountableBytes b size table
  pub fits : script_word_count (size / 2) ≤ room / 2
