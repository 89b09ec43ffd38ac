-- The refusal tables of count, reading, page and number: what the answer 0 gives, and which numbers and scripts the refusals 12 and 13 leave.
-- Assumes nothing.
use mathlib.Core.Path.{◌≡◌, refl, subst, subst⁻¹}
use mathlib.Core.Logic.{inl, inr, ◌≢◌, ⊎_elim}
use mathlib.Core.List.{List, [], ◌∷◌, ◌++◌}
use Prim.Native.Nat.{ℕ, ◌≤◌, ◌<◌}
use native.Mathlib.Decide.{dec_lt}
use native.Mathlib.Omega.{arith}
use Rattle.bits.proofs.Each.{all_front, all_back}
use Rattle.derivation.specs.Grammar.{Grammar}
use Rattle.derivation.specs.Reading.{IsReading}
use Rattle.derivation.specs.Derivations.{NumberOf}
use Rattle.derivation.proofs.Numbering.{of_number, number_once}
use Rattle.image.specs.Refusal.{Row, ◌unless◌, FirstOf, First}
use Rattle.image.specs.Exactly.{demand, AllHold}
use Rattle.layout.specs.Layout.{decode}
use Rattle.image.specs.Image.{most_events, image_rows, event_rows, record_rows, Names}
use Rattle.image.specs.Accepted.{Accepted}
use Rattle.image.proofs.Refusals.{Lacks, none, fail, pass, all_hold, past_zero, reached, never}
use Rattle.image.proofs.Named.{names_before, names_behind}
use Rattle.image.proofs.Images.{accepted_back, record_holding}
use Rattle.table.specs.Table.{limit, held, table_words}
use Rattle.rank.specs.Rank.{HeldOf}
use Rattle.readings.specs.Count.{table_rows, count_rows}
use Rattle.readings.specs.Reading.{room_rows, Beyond, number_rows, lent_rows, Fills}
use Rattle.readings.specs.Number.{script_rows}
use Rattle.readings.specs.Exact.{Countable, Lendable}

-- ---- what the answer 0 gives
module _ (b : List ℕ) (n size : ℕ) where
  count_holds : AllHold (count_rows b n size) → Countable b n size
  count_holds h =
      let r = record_holding b n (all_front demand (record_rows b n) (table_rows b n size) h) in
      record { image = r.0; few = r.1; fits = (all_back demand (record_rows b n) (table_rows b n size) h).0 }

  pub count_ok : (r : ℕ) → r ≡ 0 → First (count_rows b n size) r → Countable b n size
  count_ok r e p = count_holds (all_hold (count_rows b n size) (omega arith) r e p)

  module _ (need space : ℕ) where
    pub lent_ok : (r : ℕ) → r ≡ 0 → First (lent_rows b n size need space) r → Lendable b n size need space
    lent_ok r e p =
        let h = all_hold (lent_rows b n size need space) (omega arith) r e p in
        record { count = count_holds (all_front demand (count_rows b n size) (room_rows need space) h); fits = (all_back demand (count_rows b n size) (room_rows need space) h).0 }

    -- and what gives it
    pub lent_passes : Accepted b → n ≤ most_events → table_words (decode b).symbols n ≤ size → need ≤ space → First (lent_rows b n size need space) 0
    lent_passes image few fits room =
        past_zero (count_rows b n size) (room_rows need space) (omega arith) 0 refl
        (past_zero (record_rows b n) (table_rows b n size) (omega arith) 0 refl
        (past_zero (image_rows b) (event_rows n) (omega arith) 0 refl (accepted_back b image) (pass few none))
        (pass fits none))
        (pass room none)

    pub lent_record : First (lent_rows b n size need space) 0 → First (record_rows b n) 0
    lent_record p = reached (record_rows b n) (table_rows b n size) 0 (omega arith) (reached (count_rows b n size) (room_rows need space) 0 (omega arith) p)

-- ---- refusals before the table is filled: after none of them it is, and an answer after which it is comes from behind them
pub record Early (rows : List Row) : Type 0 where
  pub zero : Lacks 0 rows
  pub twelve : Lacks 12 rows
  pub thirteen : Lacks 13 rows

module _ (rows : List Row) (e : Early rows) where
  fills_lack : (r : ℕ) → Fills r → Lacks r rows
  fills_lack r = ⊎_elim (lacks 0 e.zero) (⊎_elim (lacks 12 e.twelve) (lacks 13 e.thirteen))
    where
      lacks : (m : ℕ) → Lacks m rows → r ≡ m → Lacks r rows
      lacks m l q = subst⁻¹ (λ (k : ℕ). Lacks k rows) q l

  pub early_keeps : (r : ℕ) → r ≢ 0 → First rows r → Fills r → ⊥
  early_keeps r z p h = never rows r z (fills_lack r h) p

  pub early_past : (more : List Row) (r : ℕ) → Fills r → First (rows ++ more) r → First rows 0
  early_past more r h p = reached rows more r (fills_lack r h) p

pub count_early : (b : List ℕ) (n size : ℕ) → Early (count_rows b n size)
count_early b n size = record { zero = omega arith; twelve = omega arith; thirteen = omega arith }

pub lent_early : (b : List ℕ) (n size need space : ℕ) → Early (lent_rows b n size need space)
lent_early b n size need space = record { zero = omega arith; twelve = omega arith; thirteen = omega arith }

-- ---- refusals 12 and 13, from the number of readings held at the limit
module _ (k t m : ℕ) (e : t ≡ held m) where
  pub thirteen : k ≡ limit → t ≡ limit → First (number_rows k m) 13
  thirteen a b = let y : Beyond k m = record { last = a; many = omega arith } in pass (inr y) (fail (λ f. f y))

  pub twelve_last : k ≡ limit → (t ≡ limit → ⊥) → First (number_rows k m) 12
  twelve_last a b = fail (⊎_elim (λ (l : k < m). b (omega arith)) (λ (y : Beyond k m). b (omega (arith, y.many))))

  pub numbered : (k ≡ limit → ⊥) → k < t → First (number_rows k m) 0
  numbered a b = pass (inl (omega arith)) (pass (λ y. a y.last) none)

  pub twelve : (k ≡ limit → ⊥) → k ≤ limit → t ≤ k → First (number_rows k m) 12
  twelve a l b = fail (⊎_elim (λ (h : k < m). a (omega arith)) (λ (y : Beyond k m). a y.last))

-- ---- refusals 12 and 13 of a script, from its number held at the limit
pub number_passes : (g : Grammar) (w s : List ℕ) (x : ℕ) → NumberOf g w s x → x < limit → First (script_rows g w s) 0
number_passes g w s x n l = pass (of_number g w s x n) (pass (λ q m. omega (arith, number_once g w s x q n m)) none)

module _ (g : Grammar) (w s : List ℕ) where
  pub no_reading : (IsReading g w s → ⊥) → First (script_rows g w s) 12
  no_reading p = fail p

  module _ (x : ℕ) (h : HeldOf (NumberOf g w s) x) where
    pub past_limit : x ≡ limit → First (script_rows g w s) 13
    past_limit e = pass (of_number g w s h.number h.is) (fail (λ f. omega (arith, f h.number h.is, h.shown)))

    -- a held number below the limit is the number itself
    pub is_number : (x ≡ limit → ⊥) → NumberOf g w s x
    is_number z = subst (NumberOf g w s) (exact_number h.number h.shown) h.is
      where
        exact_number : (q : ℕ) → x ≡ held q → q ≡ x
        exact_number q e = omega arith

    pub below_limit : (x ≡ limit → ⊥) → First (script_rows g w s) 0
    below_limit z = number_passes g w s x (is_number z) (omega (arith, h.shown))

-- ---- behind both the table is filled, and none of them names a rule
pub late_fills : {P Q : Type 0} (r : ℕ) → First ((12 unless P) ∷ (13 unless Q) ∷ []) r → Fills r
late_fills {P} {Q} r p = go p.is
  where
    go : FirstOf ((12 unless P) ∷ (13 unless Q) ∷ []) r → Fills r
    go (inl q) = inr (inl q.1)
    go (inr (y, inl q)) = inr (inr q.1)
    go (inr (y, inr q)) = inl q.1

pub fills_name : {g : Grammar} (r : ℕ) → Fills r → Names g r 0
fills_name r =
    ⊎_elim (λ (e : r ≡ 0). names_before (omega arith) refl)
    (⊎_elim (λ (e : r ≡ 12). names_behind (omega arith) refl) (λ (e : r ≡ 13). names_behind (omega arith) refl))

pub number_ok : (k m r : ℕ) → r ≡ 0 → First (number_rows k m) r → k ≤ limit → (k < m) × (k < limit)
number_ok k m r e p l =
    let h = all_hold (number_rows k m) (omega arith) r e p in
    ⊎_elim (λ (q : k < m). (q, less q h.1.0)) (λ (y : Beyond k m). absurd (h.1.0 y)) h.0
  where
    less : k < m → (Beyond k m → ⊥) → k < limit
    less q f = elim (dec_lt k limit) [ yes y ↦ y | no y ↦ absurd (f (record { last = omega arith; many = omega arith })) ]
