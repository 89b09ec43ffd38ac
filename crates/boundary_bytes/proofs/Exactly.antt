-- Over bytes, too, the answer 0 is given exactly where image, record and lent memory pass.
-- Assumes nothing.
use mathlib.Core.Path.{◌≡◌, refl}
use mathlib.Core.Logic.{inl}
use mathlib.Core.List.{List, ◌++◌}
use Prim.Native.Nat.{ℕ, ◌/◌, ◌≤◌}
use native.Mathlib.Omega.{arith}
use lib.ListN.{length}
use Rattle.packed.specs.Packed.{words}
use Rattle.derivation.specs.Tree.{script_word_count}
use Rattle.layout.specs.Layout.{decode}
use Rattle.image.specs.Refusal.{First}
use Rattle.image.specs.Exactly.{Exactly}
use Rattle.image.specs.Image.{image_rows, event_byte_rows, record_byte_rows}
use Rattle.image.proofs.Refusals.{none, pass, first_only, past_zero, reached, passed}
use Rattle.image.proofs.Images.{accepted_back}
use Rattle.chart.specs.Answer.{Judged}
use Rattle.chart.specs.Judge.{chart_rows}
use Rattle.table.specs.Table.{limit}
use Rattle.readings.specs.Answer.{Counted}
use Rattle.readings.specs.Answer.{Read}
use Rattle.readings.specs.Count.{how_many, table_rows}
use Rattle.readings.specs.Reading.{room_rows, number_rows}
use Rattle.readings.specs.Exact.{Numbered}
use Rattle.readings.proofs.Refuses.{number_ok}
use Rattle.boundary_bytes.specs.JudgeBytes.{JudgeBytesIs}
use Rattle.boundary_bytes.specs.CountBytes.{count_byte_rows, CountBytesIs}
use Rattle.boundary_bytes.specs.ReadingBytes.{lent_byte_rows, ReadingBytesIs}
use Rattle.boundary_bytes.specs.Exact.{Readable, JudgeableBytes, CountableBytes, LendableBytes}
use Rattle.boundary_bytes.proofs.Passes.{chart_passes, table_passes, lent_passes}

module _ (b : List ℕ) (size : ℕ) where
  record_first : Readable b size → First (record_byte_rows b size) 0
  record_first r = past_zero (image_rows b) (event_byte_rows size) (omega arith) 0 refl (accepted_back b r.image) (pass r.few (pass r.whole none))

  count_first : (table : ℕ) → CountableBytes b size table → First (count_byte_rows b size table) 0
  count_first table c = past_zero (record_byte_rows b size) (table_rows b (size / 2) (table / 4)) (omega arith) 0 refl (record_first c.events) (pass c.fits none)

  lent_first : (table room : ℕ) → LendableBytes b size table room → First (lent_byte_rows b size table room) 0
  lent_first table room c =
      past_zero (count_byte_rows b size table) (room_rows (script_word_count (size / 2)) (room / 2)) (omega arith) 0 refl (count_first table c.count) (pass c.fits none)

pub judge_bytes_exactly : (b e before : List ℕ) (r : Judged) (after : List ℕ) → JudgeBytesIs b e before r after
    → Exactly (r.refusal ≡ 0) (JudgeableBytes b (length e) (length before))
judge_bytes_exactly b e before r after p = record {
  only = λ z. chart_passes b (length e) (length before) _ z p.refusal;
  whenever = λ c. first_only p.refusal
      (past_zero (record_byte_rows b (length e)) (chart_rows (length e / 2) (length before / 8)) (omega arith) 0 refl (record_first b (length e) c.events) (pass c.fits none));
}

pub count_bytes_exactly : (b e before : List ℕ) (r : Counted) (after : List ℕ) → CountBytesIs b e before r after
    → Exactly (r.refusal ≡ 0) (CountableBytes b (length e) (length before))
count_bytes_exactly b e before r after p = record {
  only = λ z. table_passes b (length e) (length before) _ z p.refusal;
  whenever = λ c. first_only p.refusal (count_first b (length e) (length before) c);
}

pub reading_bytes_exactly : (b e : List ℕ) (k : ℕ) (table room : List ℕ) (r : Read) (table' room' : List ℕ) → k ≤ limit → ReadingBytesIs b e k table room r table' room'
    → Exactly (r.refusal ≡ 0) (LendableBytes b (length e) (length table) (length room) × Numbered k (how_many (decode b) (words 2 e)))
reading_bytes_exactly b e k table room r table' room' small p = record {
  only = λ z.
      let q : First (lent_byte_rows b (length e) (length table) (length room) ++ number_rows k (how_many (decode b) (words 2 e))) 0 = rw z at p.refusal in
      let h = number_ok k _ 0 refl (passed (lent_byte_rows b (length e) (length table) (length room)) (number_rows k (how_many (decode b) (words 2 e))) 0 (omega arith) q) small in (
        lent_passes b (length e) (length table) (length room) 0 refl (reached (lent_byte_rows b (length e) (length table) (length room)) (number_rows k (how_many (decode b) (words 2 e))) 0 (omega arith) q),
        record { below = h.0; small = h.1 },
      );
  whenever = λ c. first_only p.refusal (past_zero (lent_byte_rows b (length e) (length table) (length room)) (number_rows k (how_many (decode b) (words 2 e))) (omega arith) 0 refl
      (lent_first b (length e) (length table) (length room) c.0) (pass (inl c.1.below) (pass (λ y. omega (arith, y.last, c.1.small)) none)));
}
