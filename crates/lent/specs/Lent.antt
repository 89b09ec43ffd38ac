-- Inside: what is left in lent bytes where nothing of the image, the record and the lengths refuses.
-- Assumes nothing.
use Rattle.std.specs.Prelude.{◌≡◌, List, ℕ, ◌*◌, ◌≤◌, length}
use Rattle.bits.specs.Frame.{Framed}
use Rattle.packed.specs.Packed.{words}
use Rattle.derivation.specs.Grammar.{Grammar}
use Rattle.derivation.specs.Tree.{script_word_count}
use Rattle.derivation.specs.Chart.{cells}
use Rattle.layout.specs.Layout.{decode}
use Rattle.image.specs.Image.{most_events}
use Rattle.chart.specs.Answer.{Judged}
use Rattle.chart.specs.Judge.{Answered}
use Rattle.table.specs.Table.{held, table_words}
use Rattle.readings.specs.Answer.{paged}
use Rattle.readings.specs.Count.{how_many}
use Rattle.readings.specs.Page.{PageIs}
use Rattle.lent.specs.declared.tables.Taken.{Taken}

-- a chart is lent
pub record LendsChart (w chart : List ℕ) : Type 0 where
  pub few : length w ≤ most_events
  pub fits : 8 * cells (length w) ≤ length chart

pub record JudgedIn (g : Grammar) (w before : List ℕ) (r : Judged) (after : List ℕ) : Type 0 where
  pub refusal : r.refusal ≡ 0
  pub rule : r.rule ≡ 0
  pub answered : Answered g w (words 8 before) r (words 8 after)
  pub framed : Framed before after 0 (8 * cells (length w))

-- a table is lent, and words for m scripts
pub record LendsTable (g : Grammar) (w : List ℕ) (m : ℕ) (table room : List ℕ) : Type 0 where
  pub few : length w ≤ most_events
  pub fits : 4 * table_words g.symbols (length w) ≤ length table
  pub space : m * script_word_count (length w) ≤ length room

pub record TakenIs (b w : List ℕ) (k m : ℕ) (table room : List ℕ) (r : Taken) (table' room' : List ℕ) : Type 0 where
  pub page : PageIs b w k m (words 4 table) room (paged r.paged) (words 4 table') room'
  pub framed : Framed table table' 0 (4 * table_words (decode b).symbols (length w))
  pub total : r.total ≡ held (how_many (decode b) w)
