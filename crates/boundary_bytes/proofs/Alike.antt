-- The services over bytes beside those over words: where the events are whole, what they leave is what the library may leave in the words that the bytes show.
-- So each admits one outcome only, and that is the library's.
-- Assumes nothing.
use mathlib.Core.Path.{◌≡◌, refl, sym, ap, ◌∙◌, subst}
use mathlib.Core.Logic.{inl, inr}
use mathlib.Core.List.{List, ◌++◌}
use Prim.Native.Nat.{ℕ, ◌*◌, ◌/◌, ◌≤◌, ◌<◌}
use native.Mathlib.Nat.{mul-le-mul_left}
use native.Mathlib.Decide.{ℕ_discrete}
use native.Mathlib.Omega.{arith}
use lib.ListN.{length}
use Rattle.bits.specs.Frame.{Framed}
use Rattle.bits.proofs.Frames.{framed_none}
use Rattle.packed.specs.Packed.{words}
use Rattle.packed.specs.Bytes.{Bytes, Unpacked}
use Rattle.packed.proofs.Words.{length_words}
use Rattle.packed.proofs.Unpacks.{unpacked, unpacked_only}
use Rattle.layout.specs.Layout.{decode}
use Rattle.image.specs.Refusal.{Row, FirstOf, First}
use Rattle.image.specs.Image.{image_rows, event_rows, event_byte_rows, record_rows, record_byte_rows}
use Rattle.image.proofs.Refusals.{first_only, behind}
use Rattle.image.proofs.Named.{names_same}
use Rattle.chart.specs.Answer.{Judged}
use Rattle.chart.specs.Judge.{chart_rows, JudgeIs}
use Rattle.chart.proofs.Judges.{judge_only}
use Rattle.readings.specs.Answer.{Counted}
use Rattle.readings.specs.Answer.{Read}
use Rattle.readings.specs.Count.{how_many, table_rows, CountIs}
use Rattle.readings.specs.Reading.{number_rows, Fills, ReadingIs}
use Rattle.readings.proofs.Refuses.{early_past}
use Rattle.readings.proofs.Only.{count_only, reading_only, fills?}
use Rattle.boundary_bytes.specs.JudgeBytes.{JudgeBytesIs}
use Rattle.boundary_bytes.specs.CountBytes.{CountBytesIs}
use Rattle.boundary_bytes.specs.ReadingBytes.{lent_byte_rows, ReadingBytesIs}
use Rattle.boundary_bytes.specs.Same.{Whole, Same}
use Rattle.boundary_bytes.proofs.Passes.{chart_passes, table_passes, lent_passes}
use Rattle.boundary_bytes.proofs.Answers.{early}

-- ---- the refusals of the record
-- of whole events 14 is none, and 8 is the same for bytes and for words
words_rows : (b e : List ℕ) (more rest : List Row) (n : ℕ) → Whole e → (FirstOf more n → FirstOf rest n)
    → First (record_byte_rows b (length e) ++ more) n → First (record_rows b (length (words 2 e)) ++ rest) n
words_rows b e more rest n whole f = behind (image_rows b) (event_byte_rows (length e) ++ more) (event_rows (length (words 2 e)) ++ rest) n go
  where
    go : FirstOf (event_byte_rows (length e) ++ more) n → FirstOf (event_rows (length (words 2 e)) ++ rest) n
    go (inl p) = inl (λ h. p.0 (omega (arith, h, whole, length_words 2 e)), p.1)
    go (inr (x, inl p)) = absurd (p.0 whole)
    go (inr (x, inr (y, p))) = inr (omega (arith, x, length_words 2 e), f p)

-- ---- the bytes of lent memory, where only those of some first words changed
unpacks : (size n : ℕ) → 0 < size → (ws before after : List ℕ) → Bytes after → words size after ≡ ws → n ≤ length before / size → Framed before after 0 (size * n)
    → Unpacked size ws before after
unpacks size n some ws before after bytes e fits f = unpacked size some ws before after bytes f.long e (λ x h. f.after x (omega (arith, h, fewer)))
  where
    many : length ws ≡ length before / size
    many = ap length (sym e) ∙ length_words size after ∙ ap (λ (m : ℕ). m / size) f.long

    fewer : size * n ≤ size * length ws
    fewer = mul-le-mul_left size (subst (λ (m : ℕ). n ≤ m) (sym many) fits)

kept_frame : (size : ℕ) (before after : List ℕ) → after ≡ before → Framed before after 0 (size * 0)
kept_frame size before after e = subst (λ (l : List ℕ). Framed before l 0 (size * 0)) (sym e) (framed_none before 0 (size * 0))

-- ---- judging
module _ (b e before : List ℕ) where
  judge_words : (r : Judged) (after : List ℕ) → Whole e → JudgeBytesIs b e before r after → JudgeIs b (words 2 e) (words 8 before) r (words 8 after)
  judge_words r after whole p = record {
    refusal = words_rows b e (chart_rows (length e / 2) (length before / 8)) (chart_rows (length (words 2 e)) (length (words 8 before))) r.refusal whole
        (λ f. rw (length_words 2 e, length_words 8 before) f) p.refusal;
    rule = p.rule;
    refused = λ y. let x = p.refused y in record { admitted = x.admitted; items = x.items; firings = x.firings; kept = ap (words 8) x.kept };
    answered = p.answered;
  }

  chart_bytes : (r : Judged) (after chart : List ℕ) → Bytes after → words 8 after ≡ chart → JudgeBytesIs b e before r after → Unpacked 8 chart before after
  chart_bytes r after chart bytes w p = elim (ℕ_discrete r.refusal 0) [
    | yes z ↦ unpacks 8 _ (omega arith) chart before after bytes w (chart_passes b (length e) (length before) r.refusal z p.refusal).fits (p.framed z)
    | no z ↦ unpacks 8 0 (omega arith) chart before after bytes w (omega arith) (kept_frame 8 before after (p.refused z).kept)
  ]

  pub judge_same : Whole e → (after : List ℕ) (r s : Judged) (chart : List ℕ) → Bytes after
      → JudgeBytesIs b e before r after → JudgeIs b (words 2 e) (words 8 before) s chart → (r ≡ s) × Unpacked 8 chart before after
  judge_same whole after r s chart bytes p q =
      let o = judge_only b (words 2 e) (words 8 before) r s (words 8 after) chart (judge_words r after whole p) q in
      (o.0, chart_bytes r after chart bytes o.1 p)

  pub judge_bytes_only : (r s : Judged) (after other : List ℕ) → Bytes after → Bytes other → JudgeBytesIs b e before r after → JudgeBytesIs b e before s other
      → (r ≡ s) × (after ≡ other)
  judge_bytes_only r s after other x y p q = go (ℕ_discrete r.refusal 0)
    where
      same : r.refusal ≡ s.refusal
      same = first_only p.refusal q.refusal

      rules : r.rule ≡ s.rule
      rules = names_same same p.rule q.rule

      go : Dec (r.refusal ≡ 0) → (r ≡ s) × (after ≡ other)
      go (yes z) =
          let whole = (chart_passes b (length e) (length before) r.refusal z p.refusal).events.whole in
          let o = judge_same whole after r s (words 8 other) x p (judge_words s other whole q) in
          (o.0, unpacked_only 8 (words 8 other) before after other o.1 (chart_bytes s other (words 8 other) y refl q))
      go (no z) =
          let f = p.refused z in
          let g = q.refused (λ h. z (same ∙ h)) in (
            λ i. record { refusal = same i; rule = rules i; admitted = (f.admitted ∙ sym g.admitted) i; items = (f.items ∙ sym g.items) i; firings = (f.firings ∙ sym g.firings) i },
            f.kept ∙ sym g.kept,
          )

-- ---- counting
module _ (b e before : List ℕ) where
  count_words : (r : Counted) (after : List ℕ) → Whole e → CountBytesIs b e before r after → CountIs b (words 2 e) (words 4 before) r (words 4 after)
  count_words r after whole p = record {
    refusal = words_rows b e (table_rows b (length e / 2) (length before / 4)) (table_rows b (length (words 2 e)) (length (words 4 before))) r.refusal whole
        (λ f. rw (length_words 2 e, length_words 4 before) f) p.refusal;
    rule = p.rule;
    refused = λ y. let x = p.refused y in record { total = x.total; kept = ap (words 4) x.kept };
    answered = p.answered;
  }

  table_bytes : (r : Counted) (after table : List ℕ) → Bytes after → words 4 after ≡ table → CountBytesIs b e before r after → Unpacked 4 table before after
  table_bytes r after table bytes w p = elim (ℕ_discrete r.refusal 0) [
    | yes z ↦ unpacks 4 _ (omega arith) table before after bytes w (table_passes b (length e) (length before) r.refusal z p.refusal).fits (p.framed z)
    | no z ↦ unpacks 4 0 (omega arith) table before after bytes w (omega arith) (kept_frame 4 before after (p.refused z).kept)
  ]

  pub count_same : Whole e → (after : List ℕ) (r s : Counted) (table : List ℕ) → Bytes after
      → CountBytesIs b e before r after → CountIs b (words 2 e) (words 4 before) s table → (r ≡ s) × Unpacked 4 table before after
  count_same whole after r s table bytes p q =
      let o = count_only b (words 2 e) (words 4 before) r s (words 4 after) table (count_words r after whole p) q in
      (o.0, table_bytes r after table bytes o.1 p)

  pub count_bytes_only : (r s : Counted) (after other : List ℕ) → Bytes after → Bytes other → CountBytesIs b e before r after → CountBytesIs b e before s other
      → (r ≡ s) × (after ≡ other)
  count_bytes_only r s after other x y p q = go (ℕ_discrete r.refusal 0)
    where
      same : r.refusal ≡ s.refusal
      same = first_only p.refusal q.refusal

      rules : r.rule ≡ s.rule
      rules = names_same same p.rule q.rule

      go : Dec (r.refusal ≡ 0) → (r ≡ s) × (after ≡ other)
      go (yes z) =
          let whole = (table_passes b (length e) (length before) r.refusal z p.refusal).events.whole in
          let o = count_same whole after r s (words 4 other) x p (count_words s other whole q) in
          (o.0, unpacked_only 4 (words 4 other) before after other o.1 (table_bytes s other (words 4 other) y refl q))
      go (no z) =
          let f = p.refused z in
          let g = q.refused (λ h. z (same ∙ h)) in
          (λ i. record { refusal = same i; rule = rules i; total = (f.total ∙ sym g.total) i }, f.kept ∙ sym g.kept)

-- ---- one reading
module _ (b e : List ℕ) (k : ℕ) (table room : List ℕ) where
  reading_words : (r : Read) (table' room' : List ℕ) → Whole e → ReadingBytesIs b e k table room r table' room'
      → ReadingIs b (words 2 e) k (words 4 table) (words 2 room) r (words 4 table') (words 2 room')
  reading_words r table' room' whole p = record {
    refusal = words_rows b e _ _ r.refusal whole (λ f. rw (length_words 2 e, length_words 4 table, length_words 2 room) f) p.refusal;
    rule = p.rule;
    filled = p.filled;
    kept = λ h. ap (words 4) (p.kept h);
    written = λ z. rw (length_words 2 e) (p.written z);
    unwritten = λ z. ap (words 2) (p.unwritten z);
  }

  -- what was lent is enough, where the table is filled
  module _ (r : Read) (table' room' : List ℕ) (p : ReadingBytesIs b e k table room r table' room') where
    passed : Fills r.refusal → First (lent_byte_rows b (length e) (length table) (length room)) 0
    passed h = early_past _ (early b (length e) (length table) (length room)) (number_rows k (how_many (decode b) (words 2 e))) r.refusal h p.refusal

    taken_bytes : (ws : List ℕ) → Bytes table' → words 4 table' ≡ ws → Unpacked 4 ws table table'
    taken_bytes ws bytes w = elim (fills? r.refusal) [
      | yes h ↦ unpacks 4 _ (omega arith) ws table table' bytes w (lent_passes b (length e) (length table) (length room) 0 refl (passed h)).count.fits (p.framed h)
      | no h ↦ unpacks 4 0 (omega arith) ws table table' bytes w (omega arith) (kept_frame 4 table table' (p.kept h))
    ]

    room_bytes : (ws : List ℕ) → Bytes room' → words 2 room' ≡ ws → Unpacked 2 ws room room'
    room_bytes ws bytes w = elim (ℕ_discrete r.refusal 0) [
      | yes z ↦ unpacks 2 _ (omega arith) ws room room' bytes w (lent_passes b (length e) (length table) (length room) 0 refl (passed (inl z))).fits (p.rest z)
      | no z ↦ unpacks 2 0 (omega arith) ws room room' bytes w (omega arith) (kept_frame 2 room room' (p.unwritten z))
    ]

  pub reading_same : Whole e → (table' room' : List ℕ) (r s : Read) (ws script : List ℕ) → Bytes table' → Bytes room'
      → ReadingBytesIs b e k table room r table' room' → ReadingIs b (words 2 e) k (words 4 table) (words 2 room) s ws script
      → (r ≡ s) × Unpacked 4 ws table table' × Unpacked 2 script room room'
  reading_same whole table' room' r s ws script x y p q =
      let o = reading_only b (words 2 e) k (words 4 table) (words 2 room) r s (words 4 table') ws (words 2 room') script (reading_words r table' room' whole p) q in
      (o.0, taken_bytes r table' room' p ws x o.1, room_bytes r table' room' p script y o.2)

  pub reading_bytes_only : (r s : Read) (t u o v : List ℕ) → Bytes t → Bytes u → Bytes o → Bytes v
      → ReadingBytesIs b e k table room r t o → ReadingBytesIs b e k table room s u v → (r ≡ s) × (t ≡ u) × (o ≡ v)
  reading_bytes_only r s t u o v bt bu bo bv p q = go (fills? r.refusal)
    where
      same : r.refusal ≡ s.refusal
      same = first_only p.refusal q.refusal

      rules : r.rule ≡ s.rule
      rules = names_same same p.rule q.rule

      go : Dec (Fills r.refusal) → (r ≡ s) × (t ≡ u) × (o ≡ v)
      go (yes h) =
          let whole = (lent_passes b (length e) (length table) (length room) 0 refl (passed r t o p h)).count.events.whole in
          let c = reading_same whole t o r s (words 4 u) (words 2 v) bt bo p (reading_words s u v whole q) in
          (c.0, unpacked_only 4 (words 4 u) table t u c.1 (taken_bytes s u v q (words 4 u) bu refl), unpacked_only 2 (words 2 v) room o v c.2 (room_bytes s u v q (words 2 v) bv refl))
      go (no h) = (
        λ i. record { refusal = same i; rule = rules i },
        p.kept h ∙ sym (q.kept (λ f. h (subst Fills (sym same) f))),
        p.unwritten (λ z. h (inl z)) ∙ sym (q.unwritten (λ z. h (inl (same ∙ z)))),
      )

-- ---- all three
pub same : (b e : List ℕ) → Whole e → Same b e
same b e whole = record {
  judge = λ before. judge_same b e before whole;
  count = λ before. count_same b e before whole;
  reading = λ k before room. reading_same b e k before room whole;
}
