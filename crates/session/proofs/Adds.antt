-- Laws of `AddIs`: a refusal is a row of the table and success past all rows; and only one outcome meets the record, every word of the session
-- too.
-- Assumes nothing.
use mathlib.Core.Path.{◌≡◌, refl, sym, ◌∙◌, subst⁻¹}
use mathlib.Core.List.{List}
use Prim.Native.Nat.{ℕ, ◌+◌, ◌≤◌, ◌<◌}
use native.Mathlib.Decide.{ℕ_discrete}
use native.Mathlib.Omega.{arith}
use lib.ListN.{get_or}
use lib.Seq.{ext_get_or}
use Rattle.std.specs.declared.result.Result.TheVariants.{Ok, Err}
use Rattle.bits.specs.Truth.{Decides}
use Rattle.bits.proofs.Truths.{decides_only}
use Rattle.bits.specs.Bit.{bit}
use Rattle.derivation.specs.Grammar.{Grammar}
use Rattle.derivation.specs.Chart.{cells_before}
use Rattle.derivation.proofs.Columns.{before_mono}
use Rattle.layout.specs.Layout.{decode}
use Rattle.image.specs.Refusal.{First}
use Rattle.image.specs.Image.{image_rows, Names}
use Rattle.image.specs.Answer.{number_of, rule_of}
use Rattle.image.specs.Accepted.{Accepted}
use Rattle.image.specs.declared.numbered.Refusal.{Refusal}
use Rattle.image.proofs.Refusals.{first_only, all_hold, reached, passed}
use Rattle.image.proofs.Images.{accepted}
use Rattle.image.proofs.Named.{names_same, names_before}
use Rattle.image.proofs.Outcomes.{never_zero}
use Rattle.columns.specs.NewColumn.{rd}
use Rattle.columns.proofs.OneColumn.{column_only}
use Rattle.session.specs.declared.Session.{Session}
use Rattle.session.specs.declared.Addition.{Addition}
use Rattle.session.specs.Answer.{Added, added}
use Rattle.session.specs.Session.{most_added, session_words, count_rows, add_rows, AddAnswered, AddIs}

-- a column of a session lies within its words
pub column_fits : (k : ℕ) → k ≤ most_added → cells_before k + k ≤ session_words
unfolding cells_before
column_fits k h = before_mono k (most_added + 1) (omega arith)

-- ---- what a refusal answers, and what success does
module _ (b : List ℕ) (s : Session) (e : ℕ) where
  pub refuses : (r : Refusal) → First (add_rows b s) (number_of r) → Names (decode b) (number_of r) (rule_of r) → AddIs b s e (added s (Err r))
  refuses r p q = record {
    refusal = p;
    rule = q;
    refused = λ _. record { session = refl; admitted = refl; firings = refl };
    answered = λ z. absurd (never_zero r z);
  }

  pub answers : (a : Addition) → First (add_rows b s) 0 → AddAnswered (decode b) s e (added s (Ok a)) → AddIs b s e (added s (Ok a))
  answers a p q = record {
    refusal = p;
    rule = names_before (omega arith) refl;
    refused = λ y. absurd (y refl);
    answered = λ _. q;
  }

-- what an add with success tells of its image and its session
module _ (b : List ℕ) (s : Session) (e : ℕ) (a : Added) (is : AddIs b s e a) (z : a.refusal ≡ 0) where
  first : First (add_rows b s) 0
  first = rw z at is.refusal

  pub image_accepted : Accepted b
  image_accepted = accepted b (reached (image_rows b) (count_rows s.count) 0 (omega arith) first)

  pub room_left : s.count < most_added
  room_left = (all_hold (count_rows s.count) (omega arith) 0 refl (passed (image_rows b) (count_rows s.count) 0 (omega arith) first)).0

-- ---- one outcome only
pub session_eq : (s t : Session) → s.chart ≡ t.chart → s.count ≡ t.count → s ≡ t
session_eq s t c n = λ i. record { chart = c i; count = n i }

added_eq : (a d : Added) → a.session ≡ d.session → a.firings ≡ d.firings → a.rule ≡ d.rule → a.refusal ≡ d.refusal → a.admitted ≡ d.admitted → a ≡ d
added_eq a d s f r n v = λ i. record { session = s i; firings = f i; rule = r i; refusal = n i; admitted = v i }

module _ (g : Grammar) (s : Session) (e : ℕ) (a d : Added) (p : AddAnswered g s e a) (q : AddAnswered g s e d) where
  columns : ((y : ℕ) → get_or a.session.chart y 0 ≡ get_or d.session.chart y 0) × (a.firings ≡ d.firings)
  columns = column_only g e s.chart a.session.chart d.session.chart s.count a.firings d.firings p.column q.column

  chart_same : a.session.chart ≡ d.session.chart
  chart_same = ext_get_or 0 _ _ (p.column.frame.long ∙ sym q.column.frame.long) (λ y l. columns.0 y)

  verdict_same : a.admitted ≡ d.admitted
  verdict_same = decides_only _ a.admitted d.admitted p.admitted
      (subst⁻¹ (λ (c : List ℕ). Decides d.admitted (bit (rd c 0 (s.count + 1)) 0 ≡ 1)) chart_same q.admitted)

  answered_only : a.rule ≡ d.rule → a.refusal ≡ d.refusal → a ≡ d
  answered_only r n = added_eq a d (session_eq _ _ chart_same (p.count ∙ sym q.count)) columns.1 r n verdict_same

-- the answer, and every word of the session
pub add_only : (b : List ℕ) (s : Session) (e : ℕ) (a d : Added) → AddIs b s e a → AddIs b s e d → a ≡ d
add_only b s e a d p q = go (ℕ_discrete a.refusal 0)
  where
    n : a.refusal ≡ d.refusal
    n = first_only p.refusal q.refusal

    r : a.rule ≡ d.rule
    r = names_same n p.rule q.rule

    go : Dec (a.refusal ≡ 0) → a ≡ d
    go (yes z) = answered_only (decode b) s e a d (p.answered z) (q.answered (sym n ∙ z)) r n
    go (no z) =
        let x = p.refused z in
        let y = q.refused (λ m. z (n ∙ m)) in
        added_eq a d (x.session ∙ sym y.session) (x.firings ∙ sym y.firings) r n (x.admitted ∙ sym y.admitted)
