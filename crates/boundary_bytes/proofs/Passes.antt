-- What the refusal 0 gives of an image, the bytes of a record and the lengths of lent bytes.
-- Assumes nothing.
use mathlib.Core.Path.{◌≡◌}
use mathlib.Core.List.{List, ◌++◌}
use Prim.Native.Nat.{ℕ, ◌/◌}
use native.Mathlib.Omega.{arith}
use Rattle.bits.proofs.Each.{all_front, all_back}
use Rattle.derivation.specs.Tree.{script_word_count}
use Rattle.image.specs.Refusal.{First}
use Rattle.image.specs.Exactly.{demand, AllHold}
use Rattle.image.specs.Image.{record_byte_rows}
use Rattle.image.proofs.Refusals.{all_hold}
use Rattle.image.proofs.Images.{record_bytes_holding}
use Rattle.chart.specs.Judge.{chart_rows}
use Rattle.readings.specs.Count.{table_rows}
use Rattle.readings.specs.Reading.{room_rows}
use Rattle.boundary_bytes.specs.CountBytes.{count_byte_rows}
use Rattle.boundary_bytes.specs.ReadingBytes.{lent_byte_rows}
use Rattle.boundary_bytes.specs.Exact.{Readable, JudgeableBytes, CountableBytes, LendableBytes}

module _ (b : List ℕ) (size : ℕ) where
  readable : AllHold (record_byte_rows b size) → Readable b size
  readable h = let r = record_bytes_holding b size h in record { image = r.0; few = r.1; whole = r.2 }

  pub chart_passes : (chart r : ℕ) → r ≡ 0 → First (record_byte_rows b size ++ chart_rows (size / 2) (chart / 8)) r → JudgeableBytes b size chart
  chart_passes chart r e p =
      let h = all_hold (record_byte_rows b size ++ chart_rows (size / 2) (chart / 8)) (omega arith) r e p in
      record {
        events = readable (all_front demand (record_byte_rows b size) (chart_rows (size / 2) (chart / 8)) h);
        fits = (all_back demand (record_byte_rows b size) (chart_rows (size / 2) (chart / 8)) h).0;
      }

  module _ (table : ℕ) where
    countable : AllHold (count_byte_rows b size table) → CountableBytes b size table
    countable h = record {
      events = readable (all_front demand (record_byte_rows b size) (table_rows b (size / 2) (table / 4)) h);
      fits = (all_back demand (record_byte_rows b size) (table_rows b (size / 2) (table / 4)) h).0;
    }

    pub table_passes : (r : ℕ) → r ≡ 0 → First (count_byte_rows b size table) r → CountableBytes b size table
    table_passes r e p = countable (all_hold (count_byte_rows b size table) (omega arith) r e p)

    pub lent_passes : (room r : ℕ) → r ≡ 0 → First (lent_byte_rows b size table room) r → LendableBytes b size table room
    lent_passes room r e p =
        let h = all_hold (lent_byte_rows b size table room) (omega arith) r e p in
        record {
          count = countable (all_front demand (count_byte_rows b size table) (room_rows (script_word_count (size / 2)) (room / 2)) h);
          fits = (all_back demand (count_byte_rows b size table) (room_rows (script_word_count (size / 2)) (room / 2)) h).0;
        }
