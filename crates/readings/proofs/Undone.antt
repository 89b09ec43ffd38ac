-- Number to script and script to number undo each other; the empty script of a quiet empty record is number 0.
-- Assumes nothing.
use mathlib.Core.Path.{◌≡◌, refl, sym, ◌∙◌, subst}
use mathlib.Core.List.{List, []}
use Prim.Native.Nat.{ℕ, ◌<◌}
use native.Mathlib.Omega.{arith}
use lib.Dec.{lit<}
use lib.ListN.{length}
use Rattle.derivation.specs.Derivations.{NumberOf}
use Rattle.derivation.proofs.Numbering.{number_of, number_once}
use Rattle.derivation.proofs.Readings.{count_quiet, reading_quiet}
use Rattle.layout.specs.Layout.{decode}
use Rattle.image.specs.Refusal.{First}
use Rattle.image.proofs.Refusals.{all_hold, first_only, past_zero, passed}
use Rattle.table.specs.Table.{limit}
use Rattle.readings.specs.Answer.{Found}
use Rattle.readings.specs.Count.{count_rows}
use Rattle.readings.specs.Number.{script_rows, NumberIs}
use Rattle.readings.specs.Demand.{written}
use Rattle.readings.specs.Undo.{Told, Undo}
use Rattle.readings.proofs.Refuses.{number_passes}
use Rattle.readings.proofs.Numbered.{gave_number, gave_small, each}

-- a script with a number below the limit is answered, with that number
module _ (b w s : List ℕ) (q : ℕ) (n : NumberOf (decode b) w s q) (l : q < limit) (table : List ℕ) (r : Found) (t : List ℕ)
    (f : First (count_rows b (length w) (length table)) 0) (p : NumberIs b w s table r t) where
  pub answers : r.refusal ≡ 0
  answers = first_only p.refusal (past_zero (count_rows b (length w) (length table)) _ (omega arith) 0 refl f (number_passes (decode b) w s q n l))

  pub answers_it : r.reading ≡ q
  answers_it = number_once (decode b) w s r.reading q (p.answered answers) n

module _ (b w : List ℕ) where
  module _ (s : List ℕ) (q : ℕ) (a : Told b w s q) where
    told_number : NumberOf (decode b) w s q
    told_number = subst (NumberOf (decode b) w s) a.told (a.is.answered a.success)

    told_small : q < limit
    told_small =
        let late = passed (count_rows b (length w) (length a.table)) (script_rows (decode b) w s) 0 (omega arith) (rw a.success at a.is.refusal) in
        (all_hold (script_rows (decode b) w s) (omega arith) 0 refl late).1.0 q told_number

  pub undo : Undo b w
  undo = record {
    back = λ k q o g a. number_once (decode b) w (written w o) q k (told_number (written w o) q a) (gave_number b w k o g);
    forth = λ q s o a g. sym (gave_number b w q o g).spelt ∙ (told_number s q a).spelt;
    told = λ k o g table r t f p. answers b w (written w o) k (gave_number b w k o g) (gave_small b w k o g) table r t f p;
    given = λ q s a table room r t o f p. each b w q table room r t o f (told_number s q a).below (told_small s q a) p;
  }

-- a quiet empty record has the empty script as its reading number 0
pub quiet_zero : (b table : List ℕ) (r : Found) (t : List ℕ) → (decode b).quiet ≡ 1 → First (count_rows b 0 (length table)) 0 → NumberIs b [] [] table r t
    → (r.refusal ≡ 0) × (r.reading ≡ 0)
quiet_zero b table r t e f p = (answers b [] [] 0 zeroth (lit< tt) table r t f p, answers_it b [] [] 0 zeroth (lit< tt) table r t f p)
  where
    numbered : (q : ℕ) × NumberOf (decode b) [] [] q
    numbered = number_of (decode b) [] [] (reading_quiet (decode b) [] refl [] refl e)

    zeroth : NumberOf (decode b) [] [] 0
    zeroth = subst (NumberOf (decode b) [] []) (omega (arith, numbered.1.below, count_quiet (decode b) [] refl (omega arith))) numbered.1
