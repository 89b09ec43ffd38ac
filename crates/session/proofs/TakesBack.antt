-- Laws of `TakeBackIs`: a refusal and success; and only one outcome meets the record, every word of the session too.
-- Assumes nothing.
use mathlib.Core.Path.{◌≡◌, refl, sym, ◌∙◌}
use Prim.Native.Nat.{ℕ, ◌≤◌, ◌<◌}
use native.Mathlib.Decide.{ℕ_discrete}
use native.Mathlib.Omega.{arith}
use lib.ListN.{get_or}
use lib.Seq.{ext_get_or}
use Rattle.std.specs.declared.result.Result.TheVariants.{Ok, Err}
use Rattle.bits.proofs.Frames.{around}
use Rattle.derivation.specs.Chart.{cell_at}
use Rattle.image.specs.declared.numbered.Refusal.TheVariants.{SessionEmpty}
use Rattle.image.proofs.Refusals.{first_only, none, fail, pass}
use Rattle.image.proofs.Outcomes.{never_zero}
use Rattle.session.specs.declared.Session.{Session}
use Rattle.session.specs.Answer.{TakenBack, taken_back}
use Rattle.session.specs.Session.{most_added, TakeBackAnswered, TakeBackIs}
use Rattle.session.proofs.Adds.{session_eq}

-- ---- what a refusal answers, and what success does
module _ (s : Session) where
  pub refuses : ((0 < s.count) × (s.count ≤ most_added) → ⊥) → TakeBackIs s (taken_back s (Err SessionEmpty))
  refuses out = record { refusal = fail out; refused = λ _. refl; answered = λ z. absurd (never_zero SessionEmpty z) }

  pub answers : (t : Session) → 0 < s.count → s.count ≤ most_added → TakeBackAnswered s (taken_back s (Ok t)) → TakeBackIs s (taken_back s (Ok t))
  answers t some few is = record { refusal = pass (some, few) none; refused = λ y. absurd (y refl); answered = λ _. is }

-- ---- one outcome only
taken_eq : (t u : TakenBack) → t.session ≡ u.session → t.refusal ≡ u.refusal → t ≡ u
taken_eq t u s n = λ i. record { session = s i; refusal = n i }

module _ (s : Session) (t u : TakenBack) (p : TakeBackAnswered s t) (q : TakeBackAnswered s u) where
  word_same : (y : ℕ) → get_or t.session.chart y 0 ≡ get_or u.session.chart y 0
  word_same = around t.session.chart u.session.chart (cell_at 0 s.count) s.count (λ y l. p.frame.before y l ∙ sym (q.frame.before y l))
      (λ x l. p.cleared.at x l ∙ sym (q.cleared.at x l)) (λ y l. p.frame.after y l ∙ sym (q.frame.after y l))

  earlier_same : t.session ≡ u.session
  earlier_same = session_eq _ _ (ext_get_or 0 _ _ (p.frame.long ∙ sym q.frame.long) (λ y l. word_same y)) (omega (arith, p.count, q.count))

-- the answer, and every word of the session
pub take_back_only : (s : Session) (t u : TakenBack) → TakeBackIs s t → TakeBackIs s u → t ≡ u
take_back_only s t u p q = taken_eq t u (go (ℕ_discrete t.refusal 0)) n
  where
    n : t.refusal ≡ u.refusal
    n = first_only p.refusal q.refusal

    go : Dec (t.refusal ≡ 0) → t.session ≡ u.session
    go (yes z) = earlier_same s t u (p.answered z) (q.answered (sym n ∙ z))
    go (no z) = p.refused z ∙ sym (q.refused (λ m. z (n ∙ m)))
