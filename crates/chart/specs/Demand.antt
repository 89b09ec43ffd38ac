-- Shown: Demand 2, of what `judge` answers and leaves: it answers exactly where image, record and chart pass, and then the chart holds a finding exactly where
-- the rules derive it, and the verdict is yes exactly where the record is admitted.
-- Assumes nothing.
use Rattle.std.specs.Prelude.{◌≡◌, true, List, ℕ, ◌≤◌, ◌<◌, length, get_or}
use Rattle.bits.specs.Bit.{bit}
use Rattle.derivation.specs.Tree.{Derivable}
use Rattle.derivation.specs.Reading.{Admitted}
use Rattle.derivation.specs.Chart.{cell_at, cells}
use Rattle.layout.specs.Layout.{decode}
use Rattle.image.specs.Exactly.{Exactly}
use Rattle.image.specs.Image.{most_events}
use Rattle.image.specs.Accepted.{Accepted}
use Rattle.chart.specs.Answer.{Judged}

-- an accepted grammar, a record that is not too long, and room enough
pub record Judgeable (b w chart : List ℕ) : Type 0 where
  pub image : Accepted b
  pub few : length w ≤ most_events
  pub room : cells (length w) ≤ length chart

pub record DemandTwo (b w before : List ℕ) (r : Judged) (after : List ℕ) : Type 0 where
  pub answered : Exactly (r.refusal ≡ 0) (Judgeable b w before)
  pub findings : Judgeable b w before → (A i k : ℕ) → i < k → k ≤ length w → Exactly (bit (get_or after (cell_at i k) 0) A ≡ 1) (Derivable (decode b) w A i k)
  pub verdict : Judgeable b w before → Exactly (r.admitted ≡ true) (Admitted (decode b) w)
