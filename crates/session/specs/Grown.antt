-- Shown: Request (iv), of sessions that adds with one image have grown from the empty one: after each event they are the chart of a fresh judgement,
-- and the event can be taken back.
-- Assumes nothing.
use Rattle.std.specs.Prelude.{◌≡◌, List, [], ◌∷◌, ◌++◌, ℕ, ◌+◌, ◌≤◌, ◌<◌, length, get_or}
use Rattle.derivation.specs.Chart.{cells}
use Rattle.chart.specs.Answer.{Judged}
use Rattle.chart.specs.Judge.{JudgeIs}
use Rattle.session.specs.declared.Session.{Session}
use Rattle.session.specs.Answer.{Added, TakenBack}
use Rattle.session.specs.Session.{no_events, AddIs, TakeBackIs}

infixl 20 ◌then◌
-- an event more behind the others
abbrev pub ◌then◌ : List ℕ → ℕ → List ℕ
w then e = w ++ (e ∷ [])

-- s was grown from the empty session by adds with the image b, all with success: w are its events, and m is the sum of the firings reported
pub data Grown (b : List ℕ) : List ℕ → Session → ℕ → Type 0 where
  begun : Grown b [] no_events 0
  added : {w : List ℕ} {s : Session} {m e : ℕ} {a : Added} → Grown b w s m → AddIs b s e a → a.refusal ≡ 0 → Grown b (w then e) a.session (m + a.firings)

-- after an add: a judgement of the n events so far gave r and left c, in any memory; the add answered a, and all adds together m firings
pub record AsJudged (n : ℕ) (a : Added) (m : ℕ) (r : Judged) (c : List ℕ) : Type 0 where
  pub refusal : r.refusal ≡ 0
  pub count : a.session.count ≡ n
  pub words : (y : ℕ) → y < cells n → get_or a.session.chart y 0 ≡ get_or c y 0
  pub admitted : a.admitted ≡ r.admitted
  pub firings : m ≡ r.firings

-- what holds when e is added with success, answered by a, to a session s so grown
pub record Growing (b w : List ℕ) (s : Session) (m e : ℕ) (a : Added) : Type 0 where
  -- the session is the chart of a fresh judgement of the events so far, whatever memory of enough words that is lent
  pub judged : (before : List ℕ) (r : Judged) (c : List ℕ) → cells (length (w then e)) ≤ length before → JudgeIs b (w then e) before r c
      → AsJudged (length (w then e)) a (m + a.firings) r c
  -- lent memory that is zero, as the session is at first, becomes the session's in every word
  pub same : (r : Judged) (c : List ℕ) → JudgeIs b (w then e) no_events.chart r c → c ≡ a.session.chart
  -- taking the event back gives the earlier session
  pub undone : (t : TakenBack) → TakeBackIs a.session t → (t.refusal ≡ 0) × (t.session ≡ s)
