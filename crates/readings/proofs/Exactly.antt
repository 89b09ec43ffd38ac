-- Demand 1, of the five services: each answers exactly where image, record, lent memory and, where there is one, the number or the script pass.
-- Assumes nothing.
use mathlib.Core.Path.{◌≡◌, refl}
use mathlib.Core.Logic.{inl}
use mathlib.Core.List.{List, ◌++◌}
use Prim.Native.Nat.{ℕ, ◌*◌, ◌≤◌, ◌<◌}
use native.Mathlib.Omega.{arith}
use lib.ListN.{length}
use Rattle.derivation.specs.Tree.{script_word_count}
use Rattle.derivation.specs.Reading.{IsReading}
use Rattle.derivation.specs.Derivations.{NumberOf}
use Rattle.layout.specs.Layout.{decode}
use Rattle.image.specs.Refusal.{First}
use Rattle.image.specs.Exactly.{Exactly}
use Rattle.image.specs.Image.{most_events, image_rows, event_rows, record_rows}
use Rattle.image.specs.Accepted.{Accepted}
use Rattle.image.proofs.Refusals.{none, pass, first_only, past_zero, reached, passed, all_hold}
use Rattle.image.proofs.Images.{accepted_back, record_holding}
use Rattle.table.specs.Table.{limit}
use Rattle.readings.specs.Answer.{Counted}
use Rattle.readings.specs.Answer.{Read}
use Rattle.readings.specs.Answer.{Paged}
use Rattle.readings.specs.Answer.{Checked}
use Rattle.readings.specs.Answer.{Found}
use Rattle.readings.specs.Count.{how_many, table_rows, count_rows, CountIs}
use Rattle.readings.specs.Reading.{room_rows, number_rows, lent_rows, ReadingIs}
use Rattle.readings.specs.Page.{PageIs}
use Rattle.readings.specs.Check.{CheckIs}
use Rattle.readings.specs.Number.{script_rows, NumberIs}
use Rattle.readings.specs.Exact.{Countable, Lendable, Numbered}
use Rattle.readings.proofs.Refuses.{count_ok, lent_ok, number_ok}

record_first : (b : List ℕ) (n : ℕ) → Accepted b → n ≤ most_events → First (record_rows b n) 0
record_first b n a l = past_zero (image_rows b) (event_rows n) (omega arith) 0 refl (accepted_back b a) (pass l none)

count_first : (b : List ℕ) (n size : ℕ) → Countable b n size → First (count_rows b n size) 0
count_first b n size c = past_zero (record_rows b n) (table_rows b n size) (omega arith) 0 refl (record_first b n c.image c.few) (pass c.fits none)

lent_first : (b : List ℕ) (n size need space : ℕ) → Lendable b n size need space → First (lent_rows b n size need space) 0
lent_first b n size need space c = past_zero (count_rows b n size) (room_rows need space) (omega arith) 0 refl (count_first b n size c.count) (pass c.fits none)

pub check_exactly : (b w s : List ℕ) (r : Checked) → CheckIs b w s r → Exactly (r.refusal ≡ 0) (Accepted b × (length w ≤ most_events))
check_exactly b w s r p = record {
  only = λ e. record_holding b (length w) (all_hold (record_rows b (length w)) (omega arith) _ e p.refusal);
  whenever = λ h. first_only p.refusal (record_first b (length w) h.0 h.1);
}

pub count_exactly : (b w before : List ℕ) (r : Counted) (after : List ℕ) → CountIs b w before r after
    → Exactly (r.refusal ≡ 0) (Countable b (length w) (length before))
count_exactly b w before r after p = record {
  only = λ e. count_ok b (length w) (length before) _ e p.refusal;
  whenever = λ c. first_only p.refusal (count_first b (length w) (length before) c);
}

-- of a reading and of a page: so many words are needed
module _ (b w : List ℕ) (k size need space : ℕ) (small : k ≤ limit) {n : ℕ}
    (p : First (lent_rows b (length w) size need space ++ number_rows k (how_many (decode b) w)) n) where
  numbered_exactly : Exactly (n ≡ 0) (Lendable b (length w) size need space × Numbered k (how_many (decode b) w))
  numbered_exactly = record {
    only = λ e.
        let q : First (lent_rows b (length w) size need space ++ number_rows k (how_many (decode b) w)) 0 = rw e at p in
        let h = number_ok k _ 0 refl (passed (lent_rows b (length w) size need space) (number_rows k (how_many (decode b) w)) 0 (omega arith) q) small in (
          lent_ok b (length w) size need space 0 refl (reached (lent_rows b (length w) size need space) (number_rows k (how_many (decode b) w)) 0 (omega arith) q),
          record { below = h.0; small = h.1 },
        );
    whenever = λ c. first_only p (past_zero (lent_rows b (length w) size need space) (number_rows k (how_many (decode b) w)) (omega arith) 0 refl
        (lent_first b (length w) size need space c.0) (pass (inl c.1.below) (pass (λ y. omega (arith, y.last, c.1.small)) none)));
  }

pub reading_exactly : (b w : List ℕ) (k : ℕ) (table room : List ℕ) (r : Read) (table' room' : List ℕ) → k ≤ limit → ReadingIs b w k table room r table' room'
    → Exactly (r.refusal ≡ 0) (Lendable b (length w) (length table) (script_word_count (length w)) (length room) × Numbered k (how_many (decode b) w))
reading_exactly b w k table room r t o l p = numbered_exactly b w k (length table) (script_word_count (length w)) (length room) l p.refusal

pub page_exactly : (b w : List ℕ) (k m : ℕ) (table room : List ℕ) (r : Paged) (table' room' : List ℕ) → k ≤ limit → PageIs b w k m table room r table' room'
    → Exactly (r.refusal ≡ 0) (Lendable b (length w) (length table) (m * script_word_count (length w)) (length room) × Numbered k (how_many (decode b) w))
page_exactly b w k m table room r t o l p = numbered_exactly b w k (length table) (m * script_word_count (length w)) (length room) l p.refusal

pub number_exactly : (b w s table : List ℕ) (r : Found) (table' : List ℕ) → NumberIs b w s table r table'
    → Exactly (r.refusal ≡ 0) (Countable b (length w) (length table) × (IsReading (decode b) w s × ((q : ℕ) → NumberOf (decode b) w s q → q < limit)))
number_exactly b w s table r t p = record {
  only = λ e.
      let q : First (count_rows b (length w) (length table) ++ script_rows (decode b) w s) 0 = rw e at p.refusal in
      let h = all_hold (script_rows (decode b) w s) (omega arith) 0 refl (passed (count_rows b (length w) (length table)) (script_rows (decode b) w s) 0 (omega arith) q) in
      (count_ok b (length w) (length table) 0 refl (reached (count_rows b (length w) (length table)) (script_rows (decode b) w s) 0 (omega arith) q), (h.0, h.1.0));
  whenever = λ c. first_only p.refusal (past_zero (count_rows b (length w) (length table)) (script_rows (decode b) w s) (omega arith) 0 refl
      (count_first b (length w) (length table) c.0) (pass c.1.0 (pass c.1.1 none)));
}
