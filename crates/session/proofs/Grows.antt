-- A grown session's columns are those of a filled chart, so that what holds of a judgement holds of it; past them its words are zero, so that
-- an event taken back leaves what was there.
-- Assumes nothing.
use mathlib.Core.Path.{◌≡◌, refl, sym, ap, ◌∙◌}
use mathlib.Core.List.{List, [], ◌∷◌, ◌++◌}
use Prim.Native.Nat.{ℕ, ◌+◌, ◌≤◌}
use native.Mathlib.Omega.{arith}
use lib.ListN.{length, get_or, length-append, length-replicate, get_or-append}
use lib.Seq.{ext_get_or, get_or-append_seam}
use Rattle.bits.specs.Frame.{Framed, Zeros}
use Rattle.bits.proofs.Frames.{around}
use Rattle.bits.proofs.Truths.{decides_only}
use Rattle.bits.proofs.Words.{zeros}
use Rattle.derivation.specs.Reading.{Admitted}
use Rattle.derivation.specs.Numbering.{Telling}
use Rattle.derivation.specs.Derivations.{known}
use Rattle.derivation.specs.Chart.{cells_before, cell_at, cells}
use Rattle.derivation.proofs.Numbering.{known_telling}
use Rattle.derivation.proofs.Columns.{cells_column, before_more}
use Rattle.layout.specs.Layout.{decode}
use Rattle.image.specs.Image.{image_rows, event_rows}
use Rattle.image.specs.Accepted.{Accepted}
use Rattle.image.proofs.Refusals.{none, pass, first_only, past_zero}
use Rattle.image.proofs.Images.{accepted_back}
use Rattle.chart.specs.Answer.{Judged}
use Rattle.columns.specs.Fill.{Columns, ones_to, TopHas}
use Rattle.columns.specs.NewColumn.{ColumnFilled}
use Rattle.chart.specs.Judge.{chart_rows, Answered, JudgeIs}
use Rattle.columns.proofs.Fills.{columns_start, columns_along, columns_step}
use Rattle.chart.proofs.Judges.{answer, shows_only, chart_only}
use Rattle.session.specs.declared.Session.{Session}
use Rattle.session.specs.Answer.{Added, TakenBack}
use Rattle.session.specs.Session.{most_added, session_words, no_events, AddAnswered, AddIs, TakeBackAnswered, TakeBackIs}
use Rattle.session.specs.Grown.{◌then◌, Grown, begun, added, AsJudged, Growing}
use Rattle.session.proofs.Adds.{column_fits, image_accepted, room_left, session_eq}

-- ---- the empty session
empty_long : length no_events.chart ≡ session_words
unfolding no_events
empty_long = length-replicate {A = ℕ} session_words 0

empty_zero : (y : ℕ) → get_or no_events.chart y 0 ≡ 0
unfolding no_events
empty_zero y = zeros session_words y

empty_count : no_events.count ≡ 0
unfolding no_events
empty_count = refl

-- ---- a grown session
then_long : (w : List ℕ) (e : ℕ) → length (w then e) ≡ length w + 1
then_long w e = length-append w (e ∷ [])

-- its columns are filled, and nothing else has changed
record Whole (b w : List ℕ) (s : Session) (m : ℕ) : Type 0 where
  count : s.count ≡ length w
  long : length s.chart ≡ session_words
  columns : Columns (decode b) w no_events.chart s.chart (length w) m

module _ (b w : List ℕ) (s : Session) (m e : ℕ) (a : Added) (was : Whole b w s m) (is : AddAnswered (decode b) s e a) where
  filled : ColumnFilled (decode b) (get_or (w then e) (length w) 0) s.chart a.session.chart (length w) a.firings
  filled = rw (get_or-append_seam w e [] 0, sym was.count) is.column

  older : Columns (decode b) (w then e) no_events.chart s.chart (length w) m
  older = columns_along (decode b) w (w then e) _ _ (length w) m (λ q h. sym (get_or-append w (e ∷ []) 0 q h)) was.columns

  whole_more : Whole b (w then e) a.session (m + a.firings)
  whole_more = record {
    count = is.count ∙ ap (λ (n : ℕ). n + 1) was.count ∙ sym (then_long w e);
    long = is.column.frame.long ∙ was.long;
    columns = rw (then_long w e) (columns_step (decode b) (w then e) _ _ _ (length w) m _ older filled);
  }

whole : (b : List ℕ) {w : List ℕ} {s : Session} {m : ℕ} → Grown b w s m → Whole b w s m
whole b begun = record { count = empty_count; long = empty_long; columns = columns_start (decode b) [] no_events.chart }
whole b (added {w} {s} {m} {e} {a} g is z) = whole_more b w s m e a (whole b g) (is.answered z)

-- ---- an add with success
module _ (b w : List ℕ) (s : Session) (m e : ℕ) (a : Added) (grown : Grown b w s m) (is : AddIs b s e a) (success : a.refusal ≡ 0) where
  now : Whole b (w then e) a.session (m + a.firings)
  now = whole b (added grown is success)

  image_ok : Accepted b
  image_ok = image_accepted b s e a is success

  few : length (w then e) ≤ most_added
  few = omega (arith, room_left b s e a is success, then_long w e, (whole b grown).count)

  -- the answer that a judgement into the session's own memory would give
  fresh : Judged
  fresh = record { refusal = 0; rule = 0; admitted = a.admitted; items = ones_to a.session.chart (cells (length (w then e))); firings = m + a.firings }

  count_now : s.count + 1 ≡ length (w then e)
  count_now = sym (is.answered success).count ∙ now.count

  top : TopHas (decode b) a.session.chart (length (w then e)) a.admitted
  top = record {
    empty = λ z. absurd (omega (arith, z, then_long w e));
    events = λ _. rw count_now at (is.answered success).admitted;
  }

  own : Answered (decode b) (w then e) no_events.chart fresh a.session.chart
  unfolding fresh
  own = answer (decode b) image_ok.sound (w then e) _ _ _ now.columns fresh (now.long ∙ sym empty_long) top refl refl

  module _ (before : List ℕ) (r : Judged) (c : List ℕ) (long : cells (length (w then e)) ≤ length before) (j : JudgeIs b (w then e) before r c) where
    number : r.refusal ≡ 0
    number = first_only j.refusal
        (past_zero (image_rows b) (event_rows (length (w then e)) ++ chart_rows (length (w then e)) (length before)) (omega arith) 0 refl
        (accepted_back b image_ok) (pass (omega (arith, few)) (pass long none)))

    told : Telling (decode b) (w then e) (known (decode b) (w then e))
    told = known_telling (decode b) (w then e)

    theirs : Answered (decode b) (w then e) before r c
    theirs = j.answered number

    as_judged : AsJudged (length (w then e)) a (m + a.firings) r c
    unfolding fresh
    as_judged = record {
      refusal = number;
      count = now.count;
      words = shows_only (decode b) (w then e) _ _ own.chart theirs.chart;
      admitted = decides_only (Admitted (decode b) (w then e)) a.admitted r.admitted own.admitted theirs.admitted;
      firings = own.firings _ told ∙ sym (theirs.firings _ told);
    }

  -- into zero words
  module _ (r : Judged) (c : List ℕ) (j : JudgeIs b (w then e) no_events.chart r c) where
    fits : cells (length (w then e)) ≤ length no_events.chart
    fits = omega (arith, empty_long, cells_column (length (w then e)), before_more (length (w then e)), column_fits (length (w then e)) few)

    same : c ≡ a.session.chart
    same = chart_only b (w then e) no_events.chart r fresh c a.session.chart (theirs no_events.chart r c fits j) own

  -- taken back
  module _ (t : TakenBack) (k : TakeBackIs a.session t) where
    taken : t.refusal ≡ 0
    taken = first_only k.refusal (pass (omega (arith, (is.answered success).count), omega (arith, few, now.count)) none)

    cleared : TakeBackAnswered a.session t
    cleared = k.answered taken

    frame : Framed a.session.chart t.session.chart (cell_at 0 (s.count + 1)) (s.count + 1)
    frame = rw (is.answered success).count at cleared.frame

    cleared_words : Zeros t.session.chart (cell_at 0 (s.count + 1)) (s.count + 1)
    cleared_words = rw (is.answered success).count at cleared.cleared

    -- the column's words were zero before the event
    was_zero : (y : ℕ) → cell_at 0 (s.count + 1) ≤ y → get_or s.chart y 0 ≡ 0
    was_zero y l =
        let p = whole b grown in
        p.columns.past y (omega (arith, l, cells_column (length w), ap (λ (n : ℕ). cells_before (n + 1)) p.count)) ∙ empty_zero y

    word : (y : ℕ) → get_or t.session.chart y 0 ≡ get_or s.chart y 0
    word = around t.session.chart s.chart (cell_at 0 (s.count + 1)) (s.count + 1) (λ y l. frame.before y l ∙ (is.answered success).column.frame.before y l)
        (λ x l. cleared_words.at x l ∙ sym (was_zero _ (omega arith))) (λ y l. frame.after y l ∙ (is.answered success).column.frame.after y (omega arith))

    undone : (t.refusal ≡ 0) × (t.session ≡ s)
    undone = (taken, session_eq _ _ (ext_get_or 0 _ _ (cleared.frame.long ∙ (is.answered success).column.frame.long) (λ y l. word y)) (omega (arith, cleared.count, (is.answered success).count)))

pub growing : (b w : List ℕ) (s : Session) (m e : ℕ) (a : Added) → Grown b w s m → AddIs b s e a → a.refusal ≡ 0 → Growing b w s m e a
growing b w s m e a grown is success = record {
  judged = as_judged b w s m e a grown is success;
  same = same b w s m e a grown is success;
  undone = undone b w s m e a grown is success;
}
