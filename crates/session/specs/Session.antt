-- Promised: what the services of a session answer, for any image b, any event e and any session: whatever its words and its count are.
-- Assumes nothing.
use Rattle.std.specs.Prelude.{◌≡◌, ◌≢◌, false, List, [], ◌∷◌, ◌++◌, ℕ, ◌+◌, ◌≤◌, ◌<◌, replicate}
use Rattle.bits.specs.Truth.{Decides}
use Rattle.bits.specs.Bit.{bit}
use Rattle.bits.specs.Frame.{Framed, Zeros}
use Rattle.derivation.specs.Grammar.{Grammar}
use Rattle.derivation.specs.Chart.{cell_at}
use Rattle.layout.specs.Layout.{decode}
use Rattle.image.specs.Refusal.{Row, ◌unless◌, First}
use Rattle.image.specs.Image.{image_rows, Names}
use Rattle.columns.specs.NewColumn.{rd, ColumnFilled}
use Rattle.session.specs.declared.Session.{Session}
use Rattle.session.specs.Answer.{Added, TakenBack}

-- the most events of a session, and the words of their chart
abbrev pub most_added : ℕ
most_added = 32

abbrev pub session_words : ℕ
session_words = 528

-- the session without events: all words zero
unfoldable pub no_events : Session
no_events = record { chart = replicate session_words 0; count = 0 }

-- ---- adding an event
-- the refusals of the image, and then 17
abbrev pub count_rows : ℕ → List Row
count_rows n = (17 unless (n < most_added)) ∷ []

abbrev pub add_rows : List ℕ → Session → List Row
add_rows b s = image_rows b ++ count_rows s.count

-- a refusal: zeros but for the rule, and the session as it was
pub record AddRefused (s : Session) (a : Added) : Type 0 where
  pub session : a.session ≡ s
  pub admitted : a.admitted ≡ false
  pub firings : a.firings ≡ 0

-- success: one event more. Its column is worked out by the rules of g from the words of the older columns as they stand, whatever its own words
-- held, and no other word changes; its firings are counted; and the verdict so far is the start symbol's bit in the cell of all events
pub record AddAnswered (g : Grammar) (s : Session) (e : ℕ) (a : Added) : Type 0 where
  pub count : a.session.count ≡ s.count + 1
  pub column : ColumnFilled g e s.chart a.session.chart s.count a.firings
  pub admitted : Decides a.admitted (bit (rd a.session.chart 0 (s.count + 1)) 0 ≡ 1)

pub record AddIs (b : List ℕ) (s : Session) (e : ℕ) (a : Added) : Type 0 where
  pub refusal : First (add_rows b s) a.refusal
  pub rule : Names (decode b) a.refusal a.rule
  pub refused : a.refusal ≢ 0 → AddRefused s a
  pub answered : a.refusal ≡ 0 → AddAnswered (decode b) s e a

-- ---- taking the last event back
-- 18: there is none, or more than a session has
abbrev pub take_back_rows : ℕ → List Row
take_back_rows n = (18 unless ((0 < n) × (n ≤ most_added))) ∷ []

-- success: the last column's words are zero, one event less, and no other word changes
pub record TakeBackAnswered (s : Session) (t : TakenBack) : Type 0 where
  pub cleared : Zeros t.session.chart (cell_at 0 s.count) s.count
  pub count : t.session.count + 1 ≡ s.count
  pub frame : Framed s.chart t.session.chart (cell_at 0 s.count) s.count

pub record TakeBackIs (s : Session) (t : TakenBack) : Type 0 where
  pub refusal : First (take_back_rows s.count) t.refusal
  pub refused : t.refusal ≢ 0 → t.session ≡ s
  pub answered : t.refusal ≡ 0 → TakeBackAnswered s t
