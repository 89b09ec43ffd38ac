-- An add answers exactly where the image is accepted and there are fewer than 32 events, and a take-back where there is one and no more than 32; and whatever
-- the events, no answer depends on the image's flag.
-- Assumes nothing.
use mathlib.Core.Path.{◌≡◌, refl, sym, subst}
use mathlib.Core.List.{List}
use Prim.Native.Nat.{ℕ, ◌≤◌, ◌<◌}
use native.Mathlib.Omega.{arith}
use Rattle.derivation.specs.Grammar.{Grammar, flagged}
use Rattle.derivation.specs.Chart.{event_firings, pair_firings, cell_firings, column_firings}
use Rattle.layout.specs.Layout.{decode}
use Rattle.image.specs.Exactly.{Exactly}
use Rattle.image.specs.Image.{image_rows}
use Rattle.image.specs.Accepted.{Accepted}
use Rattle.image.proofs.Refusals.{answered_exactly, first_only, past_zero, pass, none}
use Rattle.image.proofs.Images.{accepted_back}
use Rattle.image.proofs.Flags.{rows_flagged, names_flagged}
use Rattle.kernel.specs.Conclude.{hit, conclusions, leaf_conclusions}
use Rattle.columns.specs.NewColumn.{cell_conclusions}
use Rattle.session.specs.declared.Session.{Session}
use Rattle.session.specs.Answer.{Added, TakenBack}
use Rattle.session.specs.Session.{most_added, count_rows, AddAnswered, AddIs, take_back_rows, TakeBackIs}
use Rattle.session.proofs.Adds.{image_accepted, room_left}

pub add_exactly : (b : List ℕ) (s : Session) (e : ℕ) (a : Added) → AddIs b s e a → Exactly (a.refusal ≡ 0) (Accepted b × (s.count < most_added))
add_exactly b s e a p = record {
  only = λ z. (image_accepted b s e a p z, room_left b s e a p z);
  whenever = λ h. first_only p.refusal (past_zero (image_rows b) (count_rows s.count) (omega arith) 0 refl (accepted_back b h.0) (pass h.1 none));
}

answered_flagged : (q : ℕ) (g : Grammar) (s : Session) (e : ℕ) (a : Added) → AddAnswered g s e a → AddAnswered (flagged q g) s e a
unfolding flagged column_firings cell_firings pair_firings event_firings leaf_conclusions cell_conclusions conclusions hit
answered_flagged q g s e a p = record {
  count = p.count;
  column = record {
    column = record { leaf = p.column.column.leaf; inner = p.column.column.inner };
    counted = p.column.counted;
    frame = p.column.frame;
  };
  admitted = p.admitted;
}

pub add_flag : (b c : List ℕ) (q : ℕ) → decode c ≡ flagged q (decode b) → Accepted b → Accepted c
    → (s : Session) (e : ℕ) (a : Added) → AddIs b s e a → AddIs c s e a
add_flag b c q f x y s e a p = record {
  refusal = rows_flagged b c x y (count_rows s.count) a.refusal p.refusal;
  rule = names_flagged b c x y (count_rows s.count) a.refusal p.refusal (omega arith) (omega arith) p.rule;
  refused = p.refused;
  answered = λ z. subst (λ (h : Grammar). AddAnswered h s e a) (sym f) (answered_flagged q (decode b) s e a (p.answered z));
}

pub take_back_exactly : (s : Session) (t : TakenBack) → TakeBackIs s t → Exactly (t.refusal ≡ 0) ((0 < s.count) × (s.count ≤ most_added))
take_back_exactly s t p = record {
  only = λ z. ((answered_exactly (take_back_rows s.count) (omega arith) p.refusal).only z).0;
  whenever = λ h. first_only p.refusal (pass h none);
}
