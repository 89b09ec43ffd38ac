-- Promised: what `check` answers, for any image b, any events w and any words s.
-- Assumes nothing.
use Rattle.std.specs.Prelude.{◌≡◌, ◌≢◌, false, List, ℕ, length}
use Rattle.bits.specs.Truth.{Decides}
use Rattle.derivation.specs.Reading.{IsReading}
use Rattle.layout.specs.Layout.{decode}
use Rattle.image.specs.Refusal.{First}
use Rattle.image.specs.Image.{record_rows, Names}
use Rattle.readings.specs.Answer.{Checked}

pub record CheckIs (b w s : List ℕ) (r : Checked) : Type 0 where
  pub refusal : First (record_rows b (length w)) r.refusal
  pub rule : Names (decode b) r.refusal r.rule
  pub refused : r.refusal ≢ 0 → r.yes ≡ false
  pub answered : r.refusal ≡ 0 → Decides r.yes (IsReading (decode b) w s)
