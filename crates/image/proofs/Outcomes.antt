-- Answers of the tests, by cases: a refusal that `?` passes on, a refusal of a test's own, and the accepted image.
-- Assumes nothing.
use Prim.Native.Nat.{ℕ}
use native.Mathlib.Omega.{arith}
use native.Mathlib.Decide.{ℕ_discrete}
use mathlib.Core.HLevel.{⊥_prop}
use mathlib.Core.Logic.{∥∥₁_elim, ◌≢◌}
use mathlib.Core.Path.{◌≡◌, refl, ap, ◌∙◌, subst}
use mathlib.Core.List.{List, ◌++◌}
use Rattle.std.specs.declared.result.Result.{Result}
use Rattle.std.specs.declared.result.Result.TheVariants.{Err}
use Rattle.std.specs.Prelude.{IsErrAnd}
use Rattle.std.proofs.lemmas.Result.{err_from_is_err_and}
use Rattle.derivation.specs.Grammar.{Grammar}
use Rattle.image.specs.Refusal.{Row, First}
use Rattle.image.specs.Image.{image_rows, Names, TestedIs}
use Rattle.image.specs.Answer.{number_of, rule_of, passed, refused}
use Rattle.image.specs.Accepted.{Accepted}
use Rattle.image.specs.declared.numbered.Refusal.{Refusal}
use Rattle.image.specs.declared.numbered.Refusal.TheVariants as variant
use Rattle.image.proofs.Refusals.{Positive, first_only, first_hit, past_zero}
use Rattle.image.proofs.Images.{refusal, acceptance, accepted, accepted_back}
use Rattle.image.proofs.Decided.{image_refusal, image_answered}

-- ---- what `?` passes on
pub passed_on : {T : Type 0} (r : Result T Refusal) (e : Refusal) → IsErrAnd r (λ y. y ≡ e) → r ≡ Err e
passed_on r e p = let q = err_from_is_err_and r p in q.1 ∙ ap Err q.2

-- no refusal has the number 0
pub never_zero : (e : Refusal) → number_of e ≢ 0
never_zero variant.Short h = omega (arith, h)
never_zero variant.Unmarked h = omega (arith, h)
never_zero variant.UnknownVersion h = omega (arith, h)
never_zero variant.OutOfRange h = omega (arith, h)
never_zero variant.WrongLength h = omega (arith, h)
never_zero (variant.UnknownSymbol rule) h = omega (arith, h)
never_zero (variant.OutOfOrder rule) h = omega (arith, h)
never_zero variant.DeadSymbol h = omega (arith, h)
never_zero variant.TooManyEvents h = omega (arith, h)
never_zero variant.OddBytes h = omega (arith, h)
never_zero variant.ShortChart h = omega (arith, h)
never_zero variant.ShortTable h = omega (arith, h)
never_zero variant.ShortRoom h = omega (arith, h)
never_zero variant.NoSuchReading h = omega (arith, h)
never_zero variant.BeyondLimit h = omega (arith, h)
never_zero variant.SessionFull h = omega (arith, h)
never_zero variant.SessionEmpty h = omega (arith, h)

-- ---- the two answers of a test
module _ (rows : List Row) (g : Grammar) where
  pub refuses : (e : Refusal) → First rows (number_of e) → Names g (number_of e) (rule_of e) → TestedIs rows g (refused e)
  refuses e p q =
      refusal rows g (refused e) (number_of e) (rule_of e) (never_zero e) p q
      (refl, refl, record { symbols = refl; leaves = refl; pairs = refl })

  pub accepts : First rows 0 → TestedIs rows g (passed g)
  accepts p = acceptance rows g (passed g) p (refl, refl, record { symbols = refl; leaves = refl; pairs = refl })

-- ---- a test that goes on from another
module _ (rows more : List Row) (g : Grammar) where
  pub refuses_first : (e : Refusal) → TestedIs rows g (refused e) → TestedIs (rows ++ more) g (refused e)
  refuses_first e p = refuses (rows ++ more) g e (first_hit rows more (never_zero e) p.refusal) p.rule

  pub refuses_then : Positive rows → TestedIs rows g (passed g) → (e : Refusal) → First more (number_of e)
      → Names g (number_of e) (rule_of e) → TestedIs (rows ++ more) g (refused e)
  refuses_then z p e q m = refuses (rows ++ more) g e (past_zero rows more z 0 refl p.refusal q) m

  pub accepts_then : Positive rows → TestedIs rows g (passed g) → First more 0 → TestedIs (rows ++ more) g (passed g)
  accepts_then z p q = accepts (rows ++ more) g (past_zero rows more z 0 refl p.refusal q)

-- ---- whether an image is accepted is decided, so that the fact in a type gives the fact itself
accepted? : (b : List ℕ) → Dec (Accepted b)
accepted? b = elim (ℕ_discrete (image_refusal b) 0) [
  | yes e ↦ yes (accepted b (subst (First (image_rows b)) e (image_answered b)))
  | no z ↦ no (λ a. z (first_only (image_answered b) (accepted_back b a)))
]

pub taken : {b : List ℕ} → ∥ Accepted b ∥₁ → Accepted b
taken {b} t = elim (accepted? b) [
  | yes a ↦ a
  | no n ↦ absurd (∥∥₁_elim t ⊥_prop n)
]
