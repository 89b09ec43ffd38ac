-- Shown: what the answer 0 of count, reading, page and number says of image, record and lent memory.
-- Assumes nothing.
use Rattle.std.specs.Prelude.{List, ℕ, ◌≤◌, ◌<◌}
use Rattle.layout.specs.Layout.{decode}
use Rattle.image.specs.Image.{most_events}
use Rattle.image.specs.Accepted.{Accepted}
use Rattle.table.specs.Table.{limit, table_words}

-- an accepted grammar, a record of n events that is not too long, and a table of size words that is long enough
pub record Countable (b : List ℕ) (n size : ℕ) : Type 0 where
  pub image : Accepted b
  pub few : n ≤ most_events
  pub fits : table_words (decode b).symbols n ≤ size

-- and a room of space words that has the need
pub record Lendable (b : List ℕ) (n size need space : ℕ) : Type 0 where
  pub count : Countable b n size
  pub fits : need ≤ space

-- and a number that some reading has, of many
pub record Numbered (k many : ℕ) : Type 0 where
  pub below : k < many
  pub small : k < limit
