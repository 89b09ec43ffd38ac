-- The program's refusals: what the answer 0 gives.
-- Assumes nothing.
use mathlib.Core.Path.{◌≡◌}
use mathlib.Core.List.{List}
use Prim.Native.Nat.{ℕ, ◌≤◌}
use native.Mathlib.Omega.{arith}
use lib.ListN.{length}
use Rattle.bits.proofs.Each.{all_front, all_back}
use Rattle.layout.specs.Layout.{decode}
use Rattle.image.specs.Refusal.{First}
use Rattle.image.specs.Exactly.{demand}
use Rattle.image.specs.Image.{most_events, image_rows}
use Rattle.image.specs.Accepted.{Accepted}
use Rattle.image.proofs.Refusals.{all_hold}
use Rattle.image.proofs.Images.{holding}
use Rattle.table.specs.Table.{table_words}
use Rattle.text.specs.Text.{words}
use Rattle.text.proofs.Pairs.{length_words}
use Rattle.listing.specs.Listing.{most_words, most_event_bytes, file_rows, program_rows}

pub record Passed (b e : List ℕ) : Type 0 where
  pub image : Accepted b
  pub bytes : length e ≤ most_event_bytes
  pub few : length (words e) ≤ most_events
  pub fits : table_words (decode b).symbols (length (words e)) ≤ most_words

pub passed : (b e : List ℕ) (r : ℕ) → r ≡ 0 → First (program_rows b e) r → Passed b e
passed b e r z p =
    let h = all_hold (program_rows b e) (omega arith) r z p in
    let f = all_back demand (image_rows b) (file_rows b e) h in
    record {
      image = holding b (all_front demand (image_rows b) (file_rows b e) h);
      bytes = f.0;
      few = rw length_words (let l = f.0 in omega arith);
      fits = f.1.1.0;
    }
