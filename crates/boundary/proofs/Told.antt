-- Nothing is lost in what C is told: the record of a service's number, rule and answer decides its Result, so that the one outcome that a contract admits is
-- one Result too.
-- Assumes nothing.
use Prim.Native.Nat.{ℕ}
use mathlib.Core.Path.{◌≡◌, refl, sym, ap, ap₂, ◌∙◌}
use mathlib.Core.Logic.{◌⊎◌, inl, inr}
use Rattle.std.specs.Prelude.{Bool, cond, ◌==◌}
use Rattle.std.specs.declared.result.Result.{Result}
use Rattle.std.specs.declared.result.Result.TheVariants.{Ok, Err}
use Rattle.image.specs.Answer.{Tested, number_of, rule_of, number_in, rule_in}
use Rattle.image.specs.Outcome.{tested}
use Rattle.image.specs.declared.accepted.Grammar.{Grammar}
use Rattle.image.specs.declared.numbered.Refusal.{Refusal}
use Rattle.image.specs.declared.numbered.Refusal.TheVariants as variant
use Rattle.image.proofs.Outcomes.{never_zero}
use Rattle.chart.specs.declared.Judgement.{Judgement}
use Rattle.chart.specs.Answer.{judged}
use Rattle.session.specs.declared.Session.{Session}
use Rattle.session.specs.declared.Addition.{Addition}
use Rattle.session.specs.Answer.{TakenBack, added, taken_back}
use Rattle.readings.specs.Answer.{Counted, Read, Paged, Checked, Found, counted, read, paged, checked, found}

-- ---- a refusal from its number and its rule
refusal_with : (number rule : ℕ) → Refusal
refusal_with n r =
    cond (n == 1) variant.Short
    (cond (n == 2) variant.Unmarked
    (cond (n == 3) variant.UnknownVersion
    (cond (n == 4) variant.OutOfRange
    (cond (n == 5) variant.WrongLength
    (cond (n == 6) (variant.UnknownSymbol r)
    (cond (n == 7) (variant.OutOfOrder r)
    (cond (n == 8) variant.TooManyEvents
    (cond (n == 9) variant.ShortChart
    (cond (n == 10) variant.ShortTable
    (cond (n == 11) variant.ShortRoom
    (cond (n == 12) variant.NoSuchReading
    (cond (n == 13) variant.BeyondLimit
    (cond (n == 14) variant.OddBytes
    (cond (n == 15) variant.DeadSymbol
    (cond (n == 17) variant.SessionFull variant.SessionEmpty)))))))))))))))

again : (e : Refusal) → refusal_with (number_of e) (rule_of e) ≡ e
unfolding refusal_with
again variant.Short = refl
again variant.Unmarked = refl
again variant.UnknownVersion = refl
again variant.OutOfRange = refl
again variant.WrongLength = refl
again (variant.UnknownSymbol rule) = refl
again (variant.OutOfOrder rule) = refl
again variant.DeadSymbol = refl
again variant.TooManyEvents = refl
again variant.OddBytes = refl
again variant.ShortChart = refl
again variant.ShortTable = refl
again variant.ShortRoom = refl
again variant.NoSuchReading = refl
again variant.BeyondLimit = refl
again variant.SessionFull = refl
again variant.SessionEmpty = refl

pub refusal_told : (e f : Refusal) → number_of e ≡ number_of f → rule_of e ≡ rule_of f → e ≡ f
refusal_told e f n r = sym (again e) ∙ ap₂ refusal_with n r ∙ again f

-- ---- a Result from its number, its rule and what decides its Ok
pub told : {T : Type 0} (r s : Result T Refusal) → number_in r ≡ number_in s → rule_in r ≡ rule_in s
    → ((x y : T) → r ≡ Ok x → s ≡ Ok y → x ≡ y) → r ≡ s
told (Ok x) (Ok y) n e same = ap Ok (same x y refl refl)
told (Ok x) (Err f) n e same = absurd (never_zero f (sym n))
told (Err d) (Ok y) n e same = absurd (never_zero d n)
told (Err d) (Err f) n e same = ap Err (refusal_told d f n e)

-- ---- what C is told of two Results is the same only where they are the same: its number and its rule say which refusal it was, if any, and its rest
-- decides the Ok
module _ {T A : Type 0} (flat : Result T Refusal → A) (number rule : A → ℕ) (answered : (x : T) → number (flat (Ok x)) ≡ 0)
    (refused : (e : Refusal) → (number (flat (Err e)) ≡ number_of e) × (rule (flat (Err e)) ≡ rule_of e))
    (same : (x y : T) → flat (Ok x) ≡ flat (Ok y) → x ≡ y) where
  decides : (r s : Result T Refusal) → flat r ≡ flat s → r ≡ s
  decides (Ok x) (Ok y) h = ap Ok (same x y h)
  decides (Ok x) (Err f) h = absurd (never_zero f (sym (refused f).0 ∙ sym (ap number h) ∙ answered x))
  decides (Err d) (Ok y) h = absurd (never_zero d (sym (refused d).0 ∙ ap number h ∙ answered y))
  decides (Err d) (Err f) h =
      ap Err (refusal_told d f (sym (refused d).0 ∙ ap number h ∙ (refused f).0) (sym (refused d).1 ∙ ap rule h ∙ (refused f).1))

pub judged_told : (r s : Result Judgement Refusal) → judged r ≡ judged s → r ≡ s
judged_told = decides judged (λ j. j.refusal) (λ j. j.rule) (λ x. refl) (λ e. (refl, refl))
    (λ x y h. λ i. record { admitted = (h i).admitted; items = (h i).items; firings = (h i).firings })

pub counted_told : (r s : Result ℕ Refusal) → counted r ≡ counted s → r ≡ s
counted_told = decides counted (λ c. c.refusal) (λ c. c.rule) (λ x. refl) (λ e. (refl, refl)) (λ x y. ap (λ (c : Counted). c.total))

-- one that answers nothing but whether it refused
pub read_told : {T : Type 0} (r s : Result T Refusal) → ((x y : T) → x ≡ y) → read r ≡ read s → r ≡ s
read_told r s one e = told r s (ap (λ (a : Read). a.refusal) e) (ap (λ (a : Read). a.rule) e) (λ x y p q. one x y)

pub paged_told : (r s : Result ℕ Refusal) → paged r ≡ paged s → r ≡ s
paged_told = decides paged (λ p. p.refusal) (λ p. p.rule) (λ x. refl) (λ e. (refl, refl)) (λ x y. ap (λ (p : Paged). p.written))

pub checked_told : (r s : Result Bool Refusal) → checked r ≡ checked s → r ≡ s
checked_told = decides checked (λ c. c.refusal) (λ c. c.rule) (λ x. refl) (λ e. (refl, refl)) (λ x y. ap (λ (c : Checked). c.yes))

pub found_told : (r s : Result ℕ Refusal) → found r ≡ found s → r ≡ s
found_told = decides found (λ f. f.refusal) (λ f. f.rule) (λ x. refl) (λ e. (refl, refl)) (λ x y. ap (λ (f : Found). f.reading))

pub added_told : (before : Session) (r s : Result Addition Refusal) → added before r ≡ added before s → r ≡ s
added_told before = decides (added before) (λ a. a.refusal) (λ a. a.rule) (λ x. refl) (λ e. (refl, refl))
    (λ x y h. λ i. record { session = (h i).session; firings = (h i).firings; admitted = (h i).admitted })

-- taking back refuses by 18 alone, whose number decides it
empty_by_number : (e : Refusal) → number_of e ≡ 18 → e ≡ variant.SessionEmpty
unfolding refusal_with
empty_by_number e n = sym (again e) ∙ ap (λ (x : ℕ). refusal_with x (rule_of e)) n

pub taken_back_told : (before : Session) (r s : Result Session Refusal) → (number_in r ≡ 0) ⊎ (number_in r ≡ 18) → taken_back before r ≡ taken_back before s → r ≡ s
taken_back_told before (Ok x) (Ok y) m e = ap Ok (ap (λ (t : TakenBack). t.session) e)
taken_back_told before (Ok x) (Err f) m e = absurd (never_zero f (sym (ap (λ (t : TakenBack). t.refusal) e)))
taken_back_told before (Err d) (Ok y) m e = absurd (never_zero d (ap (λ (t : TakenBack). t.refusal) e))
taken_back_told before (Err d) (Err f) (inl z) e = absurd (never_zero d z)
taken_back_told before (Err d) (Err f) (inr n) e =
    ap Err (empty_by_number d n ∙ sym (empty_by_number f (sym (ap (λ (t : TakenBack). t.refusal) e) ∙ n)))

-- a test hands on the image itself, which its own clause says; its number and its rule are decided
pub tested_told : (r s : Result Grammar Refusal) → tested r ≡ tested s → (number_in r ≡ number_in s) × (rule_in r ≡ rule_in s)
tested_told (Ok g) (Ok h) e = (refl, refl)
tested_told (Ok g) (Err f) e = (ap (λ (t : Tested). t.refusal) e, ap (λ (t : Tested). t.rule) e)
tested_told (Err d) (Ok h) e = (ap (λ (t : Tested). t.refusal) e, ap (λ (t : Tested). t.rule) e)
tested_told (Err d) (Err f) e = (ap (λ (t : Tested). t.refusal) e, ap (λ (t : Tested). t.rule) e)
