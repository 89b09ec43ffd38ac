-- Two accepted images, which may differ in their flag: rows behind those of the image answer the same, and name the same rule.
-- Assumes nothing.
use mathlib.Core.Path.{refl, subst}
use mathlib.Core.Logic.{◌≢◌}
use mathlib.Core.List.{List, ◌++◌}
use Prim.Native.Nat.{ℕ}
use native.Mathlib.Omega.{arith}
use Rattle.layout.specs.Layout.{decode}
use Rattle.image.specs.Refusal.{Row, First}
use Rattle.image.specs.Image.{image_rows, Names}
use Rattle.image.specs.Accepted.{Accepted}
use Rattle.image.proofs.Refusals.{Lacks, past_zero, holding_passed, never}
use Rattle.image.proofs.Images.{accepted_back}
use Rattle.image.proofs.Named.{names_none}

module _ (b c : List ℕ) (x : Accepted b) (y : Accepted c) (more : List Row) (n : ℕ) (p : First (image_rows b ++ more) n) where
  behind_image : First more n
  behind_image = holding_passed (image_rows b) more n (accepted_back b x) (omega arith) p

  pub rows_flagged : First (image_rows c ++ more) n
  rows_flagged = past_zero (image_rows c) more (omega arith) 0 refl (accepted_back c y) behind_image

  pub names_flagged : Lacks 6 more → Lacks 7 more → {rule : ℕ} → Names (decode b) n rule → Names (decode c) n rule
  names_flagged six seven q =
      let a : n ≢ 6 = λ e. never more 6 (λ z. omega arith) six (subst (First more) e behind_image) in
      let d : n ≢ 7 = λ e. never more 7 (λ z. omega arith) seven (subst (First more) e behind_image) in
      names_none a d (q.other a d)
