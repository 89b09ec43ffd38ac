-- Promised: what `count` answers and what it leaves in the lent table, for any image b, any events w and any table.
-- Assumes nothing.
use Rattle.std.specs.Prelude.{◌≡◌, ◌≢◌, List, [], ◌∷◌, ◌++◌, ℕ, ◌≤◌, length}
use Rattle.derivation.specs.Grammar.{Grammar}
use Rattle.derivation.specs.Derivations.{readings}
use Rattle.layout.specs.Layout.{decode}
use Rattle.image.specs.Refusal.{Row, ◌unless◌, First}
use Rattle.image.specs.Image.{record_rows, Names}
use Rattle.table.specs.Table.{held, table_words, Filled}
use Rattle.readings.specs.Answer.{Counted}

-- the true number of readings
abbrev pub how_many : Grammar → List ℕ → ℕ
how_many g w = length (readings g w)

-- the refusals of the record, and then 10: n events, a table of size words
abbrev pub table_rows : (b : List ℕ) (n size : ℕ) → List Row
table_rows b n size = (10 unless (table_words (decode b).symbols n ≤ size)) ∷ []

abbrev pub count_rows : (b : List ℕ) (n size : ℕ) → List Row
count_rows b n size = record_rows b n ++ table_rows b n size

-- a refusal: 0 but for the rule, and the table as it was
pub record Refused (before : List ℕ) (r : Counted) (after : List ℕ) : Type 0 where
  pub total : r.total ≡ 0
  pub kept : after ≡ before

-- success: the number of readings, held at the limit, and the table of g and w
pub record Answered (g : Grammar) (w before : List ℕ) (r : Counted) (after : List ℕ) : Type 0 where
  pub total : r.total ≡ held (how_many g w)
  pub table : Filled g w before after

pub record CountIs (b w before : List ℕ) (r : Counted) (after : List ℕ) : Type 0 where
  pub refusal : First (count_rows b (length w) (length before)) r.refusal
  pub rule : Names (decode b) r.refusal r.rule
  pub refused : r.refusal ≢ 0 → Refused before r after
  pub answered : r.refusal ≡ 0 → Answered (decode b) w before r after
