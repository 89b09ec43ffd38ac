-- What a service over words left in a table or a chart of its own, whose words then went into lent bytes, is what it would have left in the words that these
-- bytes show.
-- Assumes nothing.
use mathlib.Core.Path.{◌≡◌, refl, sym, ◌∙◌, subst}
use mathlib.Core.List.{List}
use Prim.Native.Nat.{ℕ, ◌*◌, ◌≤◌}
use native.Mathlib.Nat.{mul-le-mul}
use native.Mathlib.Omega.{arith}
use lib.ListN.{length}
use Rattle.packed.specs.Packed.{words}
use Rattle.packed.specs.Put.{PutWords}
use Rattle.packed.proofs.Puts.{put_at, put_frame}
use Rattle.derivation.specs.Grammar.{Grammar}
use Rattle.derivation.specs.Tree.{script_word_count}
use Rattle.derivation.specs.Chart.{cell_at, cells}
use Rattle.derivation.proofs.Columns.{cell_within}
use Rattle.layout.specs.Layout.{decode}
use Rattle.image.specs.Refusal.{First}
use Rattle.image.specs.Image.{most_events}
use Rattle.image.specs.Accepted.{Accepted}
use Rattle.image.proofs.Refusals.{past_zero, holding_passed}
use Rattle.chart.specs.Answer.{Judged}
use Rattle.chart.specs.Judge.{Answered}
use Rattle.table.specs.Table.{slot_of, table_words, Filled}
use Rattle.table.proofs.Slots.{words_on, slot_fits}
use Rattle.readings.specs.Answer.{Paged}
use Rattle.readings.specs.Count.{how_many}
use Rattle.readings.specs.Reading.{lent_rows, number_rows, Fills}
use Rattle.readings.specs.Page.{PageIs}
use Rattle.readings.proofs.Refuses.{lent_passes, late_fills}

-- ---- the longest
most : cells most_events ≡ 4656
unfolding cells
most = refl

pub cells_most : (n : ℕ) → n ≤ most_events → cells n ≤ 4656
cells_most n h = omega (arith, words_on 1 n most_events h, most)

pub words_most : (N n : ℕ) → N ≤ 64 → n ≤ most_events → table_words N n ≤ 297984
words_most N n s h = mul-le-mul s (cells_most n h)

-- ---- a chart
module _ (g : Grammar) (w own own' before after : List ℕ) (r : Judged) (fits : cells (length w) ≤ length own) (a : Answered g w own r own')
    (p : PutWords 8 (cells (length w)) own' before after) where
  enough : cells (length w) ≤ length own'
  enough = subst (λ (n : ℕ). cells (length w) ≤ n) (sym a.frame.long) fits

  pub answered_over : Answered g w (words 8 before) r (words 8 after)
  answered_over = record {
    chart = record { at = λ A i k h l. rw (put_at 8 (cells (length w)) own' before after enough p (cell_at i k) (cell_within (length w) i k h l)) (a.chart.at A i k h l) };
    frame = put_frame 8 (cells (length w)) own' before after enough p;
    admitted = a.admitted;
    items = a.items;
    firings = a.firings;
    bound = a.bound;
  }

-- ---- a table
module _ (g : Grammar) (w own own' before after : List ℕ) (fits : table_words g.symbols (length w) ≤ length own) (f : Filled g w own own')
    (p : PutWords 4 (table_words g.symbols (length w)) own' before after) where
  room : table_words g.symbols (length w) ≤ length own'
  room = subst (λ (n : ℕ). table_words g.symbols (length w) ≤ n) (sym f.frame.long) fits

  pub filled_over : Filled g w (words 4 before) (words 4 after)
  filled_over = record {
    frame = put_frame 4 (table_words g.symbols (length w)) own' before after room p;
    counts = λ A i k s h l. put_at 4 _ own' before after room p (slot_of g.symbols A i k) (slot_fits g.symbols A i k (length w) s h l) ∙ f.counts A i k s h l;
  }

-- ---- a page
module _ (b w : List ℕ) (k m : ℕ) (own room : List ℕ) (r : Paged) (own' room' : List ℕ) (q : PageIs b w k m own room r own' room')
    (image : Accepted b) (few : length w ≤ most_events) (fits : table_words (decode b).symbols (length w) ≤ length own)
    (space : m * script_word_count (length w) ≤ length room) where
  lent : First (lent_rows b (length w) (length own) (m * script_word_count (length w)) (length room)) 0
  lent = lent_passes b (length w) (length own) (m * script_word_count (length w)) (length room) image few fits space

  -- only the number is left to refuse
  pub number_decides : First (number_rows k (how_many (decode b) w)) r.refusal
  number_decides = holding_passed (lent_rows b (length w) (length own) (m * script_word_count (length w)) (length room)) (number_rows k (how_many (decode b) w)) r.refusal lent (omega arith) q.refusal

  pub page_fills : Fills r.refusal
  page_fills = late_fills r.refusal number_decides

  module _ (before after : List ℕ) (holds : table_words (decode b).symbols (length w) ≤ length (words 4 before))
      (p : PutWords 4 (table_words (decode b).symbols (length w)) own' before after) where
    pub page_over : PageIs b w k m (words 4 before) room r (words 4 after) room'
    page_over = record {
      refusal =
          past_zero (lent_rows b (length w) (length (words 4 before)) (m * script_word_count (length w)) (length room)) (number_rows k (how_many (decode b) w)) (omega arith) 0 refl
          (lent_passes b (length w) (length (words 4 before)) (m * script_word_count (length w)) (length room) image few holds space) number_decides;
      rule = q.rule;
      filled = λ h. filled_over (decode b) w own own' before after fits (q.filled h) p;
      kept = λ h. absurd (h page_fills);
      answered = q.answered;
      refused = q.refused;
      written = q.written;
      unwritten = q.unwritten;
    }
