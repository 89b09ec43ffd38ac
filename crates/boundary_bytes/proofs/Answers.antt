-- What the services lend where nothing refuses early, and what they answer: w is the words that the bytes e of the events show.
-- Assumes nothing.
use mathlib.Core.Path.{◌≡◌, refl, sym, ap, ◌∙◌, subst}
use mathlib.Core.Logic.{◌≢◌}
use mathlib.Core.List.{List, ◌++◌}
use Prim.Native.Nat.{ℕ, ◌*◌, ◌/◌, ◌≤◌}
use native.Mathlib.Omega.{arith}
use lib.ListN.{length, get_or, take, drop}
use lib.Seq.{take_at}
use Rattle.packed.specs.Packed.{words}
use Rattle.packed.specs.Put.{PutWords}
use Rattle.packed.proofs.Words.{length_words}
use Rattle.derivation.specs.Tree.{script_word_count}
use Rattle.derivation.specs.Reading.{quiet, spelling}
use Rattle.derivation.specs.Derivations.{readings}
use Rattle.derivation.proofs.Pages.{script_long}
use Rattle.layout.specs.Layout.{decode}
use Rattle.image.specs.Refusal.{First}
use Rattle.image.specs.Image.{Names}
use Rattle.image.specs.Accepted.{Accepted}
use Rattle.image.proofs.Refusals.{past_zero, first_hit}
use Rattle.image.proofs.Named.{names_before}
use Rattle.chart.specs.Answer.{Judged}
use Rattle.table.specs.Table.{limit, table_words}
use Rattle.readings.specs.Answer.{paged}
use Rattle.readings.specs.Count.{how_many}
use Rattle.readings.specs.Reading.{number_rows, Fills, ReadingIs}
use Rattle.readings.proofs.Refuses.{Early, early_keeps, number_ok, late_fills}
use Rattle.readings.proofs.Pages.{page_of_one}
use Rattle.lent.specs.declared.tables.Taken.{Taken}
use Rattle.boundary_bytes.specs.JudgeBytes.{judge_byte_rows, JudgeBytesIs}
use Rattle.boundary_bytes.specs.CountBytes.{count_byte_rows, CountBytesIs}
use Rattle.boundary_bytes.specs.ReadingBytes.{lent_byte_rows, reading_byte_rows, ReadingBytesIs}
use Rattle.boundary_bytes.specs.Exact.{Readable}
use Rattle.lent.specs.Lent.{LendsChart, JudgedIn, LendsTable, TakenIs}
use Rattle.boundary_bytes.proofs.Passes.{chart_passes, table_passes, lent_passes}
use Rattle.lent.proofs.Over.{number_decides}

-- how many words there are
count : (e w : List ℕ) → w ≡ words 2 e → length w ≡ length e / 2
count e w h = ap length h ∙ length_words 2 e

-- ---- judging
module _ (b e chart w : List ℕ) (is : w ≡ words 2 e) (n : ℕ) (z : n ≡ 0) (f : First (judge_byte_rows b e chart) n) where
  pub lends_chart : LendsChart w chart
  lends_chart =
      let p = chart_passes b (length e) (length chart) n z f in
      record { few = rw (count e w is) (omega (arith, p.events.few)); fits = rw (count e w is) (omega (arith, p.fits)) }

  pub judge_answers : (r : Judged) (after : List ℕ) → JudgedIn (decode b) w chart r after → JudgeBytesIs b e chart r after
  judge_answers r after j = record {
    refusal = subst (First (judge_byte_rows b e chart)) (z ∙ sym j.refusal) f;
    rule = names_before (omega (arith, j.refusal)) j.rule;
    refused = λ y. absurd (y j.refusal);
    answered = λ _. own.answered;
    framed = λ _. rw (length_words 2 e) at own.framed;
  }
    where
      own : JudgedIn (decode b) (words 2 e) chart r after
      own = subst (λ (v : List ℕ). JudgedIn (decode b) v chart r after) is j

-- ---- a table, and words for m scripts
module _ (b e w : List ℕ) (is : w ≡ words 2 e) (table : List ℕ) (m : ℕ) (room : List ℕ) where
  lends : Readable b (length e) → table_words (decode b).symbols (length e / 2) ≤ length table / 4 → m * script_word_count (length e / 2) ≤ length room
      → LendsTable (decode b) w m table room
  lends p h s = record { few = rw (count e w is) (omega (arith, p.few)); fits = rw (count e w is) (omega (arith, h)); space = rw (count e w is) s }

  module _ (image : Accepted b) (l : LendsTable (decode b) w m table room) (k : ℕ) (r : Taken) (table' room' : List ℕ) (t : TakenIs b w k m table room r table' room') where
    holds : table_words (decode b).symbols (length w) ≤ length (words 4 table)
    holds = rw length_words (omega (arith, l.fits))

    number : First (number_rows k (how_many (decode b) w)) (paged r.paged).refusal
    number = number_decides b w k m (words 4 table) room (paged r.paged) (words 4 table') room' t.page image l.few holds l.space

    fills : Fills (paged r.paged).refusal
    fills = late_fills (paged r.paged).refusal number

-- ---- counting
module _ (b e table w : List ℕ) (is : w ≡ words 2 e) (n : ℕ) (z : n ≡ 0) (f : First (count_byte_rows b (length e) (length table)) n) where
  pub lends_table : (room : List ℕ) → LendsTable (decode b) w 0 table room
  lends_table room = let p = table_passes b (length e) (length table) n z f in lends b e w is table 0 room p.events p.fits (omega arith)

  pub count_answers : (room : List ℕ) (r : Taken) (table' room' : List ℕ) → TakenIs b w 0 0 table room r table' room'
      → CountBytesIs b e table (record { refusal = 0; rule = 0; total = r.total }) table'
  count_answers room r table' room' t = record {
    refusal = subst (First (count_byte_rows b (length e) (length table))) z f;
    rule = names_before (omega arith) refl;
    refused = λ y. absurd (y refl);
    answered = λ _. record { total = rw is at t.total; table = rw is at (t.page.filled (fills b e w is table 0 room (table_passes b (length e) (length table) n z f).events.image (lends_table room) 0 r table' room' t)) };
    framed = λ _. rw (count e w is) at t.framed;
  }

-- ---- one reading
-- the early refusals are none of those behind which the table is filled
pub early : (b : List ℕ) (size table room : ℕ) → Early (lent_byte_rows b size table room)
early b size table room = record { zero = omega arith; twelve = omega arith; thirteen = omega arith }

pub early_refused : (b e table room : List ℕ) (k n rule : ℕ) → n ≢ 0 → First (lent_byte_rows b (length e) (length table) (length room)) n → Names (decode b) n rule
    → ReadingBytesIs b e k table room (record { refusal = n; rule = rule }) table room
early_refused b e table room k n rule y f names = record {
  refusal = first_hit (lent_byte_rows b (length e) (length table) (length room)) (number_rows k (how_many (decode b) (words 2 e))) y f;
  rule = names;
  filled = λ q. absurd (kept q);
  framed = λ q. absurd (kept q);
  kept = λ _. refl;
  written = λ q. absurd (y q);
  rest = λ q. absurd (y q);
  unwritten = λ _. refl;
}
  where
    kept : Fills n → ⊥
    kept = early_keeps (lent_byte_rows b (length e) (length table) (length room)) (early b (length e) (length table) (length room)) n y f

module _ (b e table room w : List ℕ) (is : w ≡ words 2 e) (k n : ℕ) (z : n ≡ 0) (f : First (lent_byte_rows b (length e) (length table) (length room)) n) (script : List ℕ) where
  pub lends_script : script_word_count (length e / 2) ≤ length script → LendsTable (decode b) w 1 table script
  lends_script h = let p = lent_passes b (length e) (length table) (length room) n z f in lends b e w is table 1 script p.count.events p.count.fits (omega (arith, h))

  module _ (h : script_word_count (length e / 2) ≤ length script) (r : Taken) (table' script' : List ℕ) (t : TakenIs b w k 1 table script r table' script') where
    decides : First (number_rows k (how_many (decode b) w)) (paged r.paged).refusal
    decides = number b e w is table 1 script (lent_passes b (length e) (length table) (length room) n z f).count.events.image (lends_script h) k r table' script' t

    filled : Fills (paged r.paged).refusal
    filled = late_fills (paged r.paged).refusal decides

    first : First (reading_byte_rows b e k table room) (paged r.paged).refusal
    first = past_zero (lent_byte_rows b (length e) (length table) (length room)) (number_rows k (how_many (decode b) (words 2 e))) (omega arith) n z f (rw is at decides)

    pub reading_refused : (paged r.paged).refusal ≢ 0 → ReadingBytesIs b e k table room (record { refusal = (paged r.paged).refusal; rule = (paged r.paged).rule }) table' room
    reading_refused y = record {
      refusal = first;
      rule = t.page.rule;
      filled = λ _. rw is at (t.page.filled filled);
      framed = λ _. rw (count e w is) at t.framed;
      kept = λ q. absurd (q filled);
      written = λ q. absurd (y q);
      rest = λ q. absurd (y q);
      unwritten = λ _. refl;
    }

    module _ (small : k ≤ limit) (q : (paged r.paged).refusal ≡ 0) (room' : List ℕ) (put : PutWords 2 (script_word_count (length e / 2)) script' room room') where
      one : ReadingIs b w k (words 4 table) script (record { refusal = (paged r.paged).refusal; rule = (paged r.paged).rule }) (words 4 table') script'
      one = page_of_one b w k (words 4 table) script (paged r.paged) (words 4 table') script' small t.page

      long : length (spelling (get_or (readings (decode b) w) k quiet)) ≡ script_word_count (length w)
      long = script_long (decode b) w k (number_ok k _ (paged r.paged).refusal q decides small).0

      front : take (script_word_count (length e / 2)) script' ≡ spelling (get_or (readings (decode b) w) k quiet)
      front = ap (take (script_word_count (length e / 2))) (one.written q) ∙ take_at _ _ (script_word_count (length e / 2)) (long ∙ ap script_word_count (count e w is))

      pub reading_answers : ReadingBytesIs b e k table room (record { refusal = 0; rule = 0 }) table' room'
      reading_answers = record {
        refusal = subst (First (reading_byte_rows b e k table room)) q first;
        rule = names_before (omega arith) refl;
        filled = λ _. rw is at (t.page.filled filled);
        framed = λ _. rw (count e w is) at t.framed;
        kept = λ y. absurd (y (subst Fills q filled));
        written = λ _. put.shown ∙ rw is at (ap (λ (l : List ℕ). l ++ drop (script_word_count (length e / 2)) (words 2 room)) front);
        rest = λ _. put.frame;
        unwritten = λ y. absurd (y refl);
      }
