-- Demand 2 follows from what `judge` promises; and of a record with events nothing of it depends on the image's flag.
-- Assumes nothing.
use mathlib.Core.Path.{◌≡◌, refl, sym, ap, ◌∙◌, subst}
use mathlib.Core.Bool.{Bool, true, false}
use mathlib.Core.List.{List, ◌++◌}
use Prim.Native.Nat.{ℕ, ◌<◌}
use native.Mathlib.Omega.{arith}
use lib.ListN.{length}
use Rattle.bits.specs.Truth.{Decides}
use Rattle.bits.proofs.Truths.{decides_as}
use Rattle.bits.proofs.Each.{all_front, all_back}
use Rattle.derivation.specs.Grammar.{Grammar, flagged}
use Rattle.derivation.specs.Tree.{Derivable}
use Rattle.derivation.specs.Numbering.{Tells, Telling}
use Rattle.derivation.specs.Chart.{Findings, firings, column_firings, cell_firings, pair_firings, event_firings}
use Rattle.derivation.proofs.Counts.{of_known}
use Rattle.derivation.proofs.Numbering.{tells_only}
use Rattle.derivation.proofs.Flag.{tells_flagged, admitted_flagged, flagged_admitted}
use Rattle.layout.specs.Layout.{decode}
use Rattle.image.specs.Exactly.{Exactly, demand}
use Rattle.image.specs.Image.{record_rows, event_rows}
use Rattle.image.specs.Accepted.{Accepted}
use Rattle.image.proofs.Refusals.{answered_exactly, first_only}
use Rattle.image.proofs.Images.{record_holding}
use Rattle.image.proofs.Flags.{rows_flagged, names_flagged}
use Rattle.chart.specs.Answer.{Judged}
use Rattle.chart.specs.Judge.{chart_rows, judge_rows, Answered, JudgeIs}
use Rattle.chart.specs.Demand.{Judgeable, DemandTwo}
use Rattle.chart.proofs.Judges.{judge_passes}

yes_exactly : {P : Type 0} (ok : Bool) → Decides ok P → Exactly (ok ≡ true) P
yes_exactly true d = record { only = λ _. d; whenever = λ _. refl }
yes_exactly false d = record { only = λ e. absurd (no e); whenever = λ p. absurd (d p) }
  where
    no : false ≡ true → ⊥
    no e = let z : ◌≡◌ {A = ℕ} 0 1 = ap (λ (x : Bool). elim x [ true ↦ 1 | false ↦ 0 ]) e in omega arith

tells_exactly : (g : Grammar) (w : List ℕ) (A i k x : ℕ) → Tells g w A i k x → Exactly (x ≡ 1) (Derivable g w A i k)
tells_exactly g w A i k x t = record { only = λ e. of_known g w A i k (sym (tells_only g w A i k x t) ∙ e); whenever = t.yes }

module _ (b w before : List ℕ) (r : Judged) (after : List ℕ) (p : JudgeIs b w before r after) where
  judgeable : Exactly (r.refusal ≡ 0) (Judgeable b w before)
  judgeable = record {
    only = λ e.
        let h = (answered_exactly (judge_rows b w before) (omega arith) p.refusal).only e in
        let d = record_holding b (length w) (all_front demand (record_rows b (length w)) (chart_rows (length w) (length before)) h) in
        record { image = d.0; few = d.1; room = (all_back demand (record_rows b (length w)) (chart_rows (length w) (length before)) h).0 };
    whenever = λ j. first_only p.refusal (judge_passes b w before j);
  }

  pub demand_two : DemandTwo b w before r after
  demand_two = record {
    answered = judgeable;
    findings = λ j A i k l h. tells_exactly (decode b) w A i k _ ((p.answered (judgeable.whenever j)).chart.at A i k l h);
    verdict = λ j. yes_exactly r.admitted (p.answered (judgeable.whenever j)).admitted;
  }

-- ---- the flag
module _ (q : ℕ) (g : Grammar) (w : List ℕ) (some : 0 < length w) (before : List ℕ) (r : Judged) (after : List ℕ) where
  unflagged : (s : Findings) → Telling (flagged q g) w s → Telling g w s
  unfolding flagged
  unflagged s t = record { at = λ A i k. tells_flagged g.quiet (flagged q g) w A i k (s i k A) (t.at A i k) }

  answered_flagged : Answered g w before r after → Answered (flagged q g) w before r after
  unfolding flagged firings column_firings cell_firings pair_firings event_firings
  answered_flagged a = record {
    chart = record { at = λ A i k l h. tells_flagged q g w A i k _ (a.chart.at A i k l h) };
    frame = a.frame;
    admitted = decides_as r.admitted (admitted_flagged q g w some) (flagged_admitted q g w some) a.admitted;
    items = λ s t. a.items s (unflagged s t);
    firings = λ s t. a.firings s (unflagged s t);
    bound = a.bound;
  }

pub judge_flag : (b c : List ℕ) (q : ℕ) → decode c ≡ flagged q (decode b) → Accepted b → Accepted c → (w : List ℕ) → 0 < length w
    → (before : List ℕ) (r : Judged) (after : List ℕ) → JudgeIs b w before r after → JudgeIs c w before r after
judge_flag b c q e x y w some before r after p = record {
  refusal = rows_flagged b c x y (event_rows (length w) ++ chart_rows (length w) (length before)) r.refusal p.refusal;
  rule = names_flagged b c x y (event_rows (length w) ++ chart_rows (length w) (length before)) r.refusal p.refusal (omega arith) (omega arith) p.rule;
  refused = λ z. record { admitted = (p.refused z).admitted; items = (p.refused z).items; firings = (p.refused z).firings; kept = (p.refused z).kept };
  answered = λ z. subst (λ (h : Grammar). Answered h w before r after) (sym e) (answered_flagged q (decode b) w some before r after (p.answered z));
}
