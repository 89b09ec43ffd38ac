-- Promised: what `number` answers and what it leaves in the lent table, for any image b, any events w, any words s and any table.
-- Assumes nothing.
use Rattle.std.specs.Prelude.{◌≡◌, ◌≢◌, List, [], ◌∷◌, ◌++◌, ℕ, ◌<◌, length}
use Rattle.derivation.specs.Grammar.{Grammar}
use Rattle.derivation.specs.Reading.{IsReading}
use Rattle.derivation.specs.Derivations.{NumberOf}
use Rattle.layout.specs.Layout.{decode}
use Rattle.image.specs.Refusal.{Row, ◌unless◌, First}
use Rattle.image.specs.Image.{Names}
use Rattle.table.specs.Table.{limit, Filled}
use Rattle.readings.specs.Count.{count_rows}
use Rattle.readings.specs.Reading.{Fills}
use Rattle.readings.specs.Answer.{Found}

-- refusals 12 and 13. 12: the words are not the script of a reading. 13: the number of that reading is the limit or more
abbrev pub script_rows : Grammar → (w s : List ℕ) → List Row
script_rows g w s = (12 unless IsReading g w s) ∷ (13 unless ((q : ℕ) → NumberOf g w s q → q < limit)) ∷ []

pub record NumberIs (b w s table : List ℕ) (r : Found) (table' : List ℕ) : Type 0 where
  pub refusal : First (count_rows b (length w) (length table) ++ script_rows (decode b) w s) r.refusal
  pub rule : Names (decode b) r.refusal r.rule
  pub filled : Fills r.refusal → Filled (decode b) w table table'
  pub kept : (Fills r.refusal → ⊥) → table' ≡ table
  pub answered : r.refusal ≡ 0 → NumberOf (decode b) w s r.reading
  pub refused : r.refusal ≢ 0 → r.reading ≡ 0
