-- Demand 3 holds of the service `reading`, and the service `check` says yes to what it wrote.
-- Assumes nothing.
use mathlib.Core.Path.{◌≡◌, refl, sym, ap, ◌∙◌, subst, subst₂}
use mathlib.Core.Logic.{inl}
use mathlib.Core.Bool.{Bool, true, false}
use mathlib.Core.List.{List}
use Prim.Native.Nat.{ℕ, ◌<◌}
use native.Mathlib.Omega.{arith}
use lib.ListN.{length, take}
use lib.Seq.{take_at}
use Rattle.bits.specs.Truth.{Decides}
use Rattle.derivation.specs.Order.{Before}
use Rattle.derivation.specs.Tree.{script_word_count}
use Rattle.derivation.specs.Reading.{IsReading}
use Rattle.derivation.specs.Derivations.{NumberOf}
use Rattle.derivation.proofs.Numbering.{readings_numbered, number_of, of_number, number_once, number_before}
use Rattle.derivation.proofs.Readings.{spelling_length}
use Rattle.layout.specs.Layout.{decode}
use Rattle.image.specs.Refusal.{First}
use Rattle.image.proofs.Refusals.{none, pass, first_only, past_zero, reached, passed}
use Rattle.table.specs.Table.{limit}
use Rattle.readings.specs.Answer.{Read}
use Rattle.readings.specs.Answer.{Checked}
use Rattle.readings.specs.Count.{how_many}
use Rattle.readings.specs.Reading.{lent_rows, number_rows, ReadingIs}
use Rattle.readings.specs.Check.{CheckIs}
use Rattle.readings.specs.Demand.{Gave, written, OneToOne}
use Rattle.readings.proofs.Refuses.{lent_record, number_ok}

module _ (b w : List ℕ) where
  pub each : (k : ℕ) (table room : List ℕ) (r : Read) (t o : List ℕ) → First (lent_rows b (length w) (length table) (script_word_count (length w)) (length room)) 0
      → k < how_many (decode b) w → k < limit → ReadingIs b w k table room r t o → r.refusal ≡ 0
  each k table room r t o h l m p =
      first_only p.refusal
      (past_zero (lent_rows b (length w) (length table) (script_word_count (length w)) (length room)) _ (omega arith) 0 refl h (pass (inl l) (pass (λ y. omega (arith, y.last)) none)))

  module _ (k : ℕ) (o : List ℕ) (a : Gave b w k o) where
    first : First (lent_rows b (length w) (length a.table) (script_word_count (length w)) (length a.room)) 0
    first =
        reached (lent_rows b (length w) (length a.table) (script_word_count (length w)) (length a.room)) (number_rows k (how_many (decode b) w)) 0 (omega arith)
        (rw a.success at a.is.refusal)

    bounds : (k < how_many (decode b) w) × (k < limit)
    bounds =
        number_ok k _ 0 refl
        (passed (lent_rows b (length w) (length a.table) (script_word_count (length w)) (length a.room)) (number_rows k (how_many (decode b) w)) 0 (omega arith) (rw a.success at a.is.refusal))
        a.small

    below : k < how_many (decode b) w
    below = bounds.0

    pub gave_small : k < limit
    gave_small = bounds.1

    -- what is written is the script of reading k
    pub gave_number : NumberOf (decode b) w (written w o) k
    gave_number =
        let e = spelling_length (decode b) w _ ((readings_numbered (decode b) w).gives k below) in
        record { below = below; spelt = sym (ap (take (script_word_count (length w))) (a.is.written a.success) ∙ take_at _ _ (script_word_count (length w)) e) }

    reading : IsReading (decode b) w (written w o)
    reading = of_number (decode b) w (written w o) k gave_number

    -- the check of what is written says yes
    pub written_checked : (c : Checked) → CheckIs b w (written w o) c → (c.refusal ≡ 0) × (c.yes ≡ true)
    written_checked c q =
        let z : c.refusal ≡ 0 = first_only q.refusal (lent_record b (length w) (length a.table) (script_word_count (length w)) (length a.room) first) in
        (z, yes c.yes (q.answered z))
      where
        yes : (y : Bool) → Decides y (IsReading (decode b) w (written w o)) → y ≡ true
        yes true d = refl
        yes false d = absurd (d reading)

  earlier : (k m : ℕ) (o v : List ℕ) → k < m → Gave b w k o → Gave b w m v → Before (written w o) (written w v)
  earlier k m o v h p q =
      let n = gave_number m v q in
      subst₂ Before (gave_number k o p).spelt n.spelt ((readings_numbered (decode b) w).earlier k m h n.below)

  once : (k m : ℕ) (o v : List ℕ) → Gave b w k o → Gave b w m v → written w o ≡ written w v → k ≡ m
  once k m o v p q e = number_once (decode b) w (written w v) k m (subst (λ (s : List ℕ). NumberOf (decode b) w s k) e (gave_number k o p)) (gave_number m v q)

  every : (s : List ℕ) → IsReading (decode b) w s → (k : ℕ) × ((k < how_many (decode b) w) × ((o : List ℕ) → Gave b w k o → written w o ≡ s))
  every s d = let n = number_of (decode b) w s d in (n.0, (n.1.below, λ o p. sym (gave_number n.0 o p).spelt ∙ n.1.spelt))

  no_gap : (k : ℕ) (o s : List ℕ) → Gave b w k o → IsReading (decode b) w s → Before s (written w o)
      → (m : ℕ) × ((m < k) × ((v : List ℕ) → Gave b w m v → written w v ≡ s))
  no_gap k o s p d h =
      let n = number_of (decode b) w s d in
      (n.0, (number_before (decode b) w s (written w o) n.0 k n.1 (gave_number k o p) h, λ v q. sym (gave_number n.0 v q).spelt ∙ n.1.spelt))

  pub one_to_one : OneToOne b w
  one_to_one = record { each = each; reading = reading; once = once; earlier = earlier; every = every; first = no_gap }
