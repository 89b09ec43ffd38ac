-- The event rules over an event, one after the other: after n of them the word and the count are what those rules add.
-- Assumes nothing.
use mathlib.Core.Path.{◌≡◌, sym, ap, ap₂, ◌∙◌}
use mathlib.Core.Logic.{⊎_elim}
use mathlib.Core.List.{List}
use Prim.Native.Nat.{ℕ, ◌+◌, ◌*◌, ◌/◌, ◌%◌, ◌^◌, ◌≤◌, ◌<◌, max, min}
use native.Mathlib.Nat.{le_of_suc-le-suc, eq-or-lt_of_le, zero-mul, zero-lt-suc, mod-lt, div-lt_iff_lt-mul}
use native.Mathlib.Decide.{ℕ_discrete}
use native.Mathlib.Omega.{arith}
use Rattle.bits.specs.Truth.{same}
use Rattle.bits.specs.Sum.{sum}
use Rattle.bits.specs.Bit.{bit}
use Rattle.bits.specs.Word.{put}
use Rattle.bits.proofs.Truths.{same_lt, same_other}
use Rattle.bits.proofs.Sums.{sum_more, sum_zero, sum_le, product_le, some_add}
use Rattle.bits.proofs.Sets.{put_has, put_keeps}
use lib.ListN.{length, get_or, set}
use lib.Seq.{get_or-set_same, get_or-set_other}
use Rattle.bits.proofs.Bits.{bit_of_zero, bit_one}
use Rattle.derivation.specs.Grammar.{Grammar, event_rule_count, event_rule, rule_symbol}
use Rattle.derivation.specs.Sound.{Sound}
use Rattle.derivation.proofs.Sound.{leaf_symbol, leaf_fits_is}
use Rattle.derivation.specs.Chart.{event_firings}
use Rattle.kernel.specs.declared.Fired.{Fired}
use Rattle.kernel.specs.Fire.{Noted, LeafFired, hears, Heard}
use Rattle.kernel.specs.Conclude.{leaf_conclusions}

-- 1 where event rule r turns A into the event e, else 0
unfoldable pub turns : Grammar → ℕ → ℕ → ℕ → ℕ
turns g e A r = same (event_rule g r).event e * same (event_rule g r).symbol A

module _ (g : Grammar) (e : ℕ) where
  pub record Run (f : Fired) (n : ℕ) : Type 0 where
    pub word : (A : ℕ) → bit f.word A ≡ min 1 (sum n (turns g e A))
    pub count : f.count ≡ sum n (λ r. same (event_rule g r).event e)

  pub run_start : (f : Fired) → f.word ≡ 0 → f.count ≡ 0 → Run f 0
  unfolding sum
  run_start f z c = record { word = λ A. rw z (bit_of_zero A); count = c }

  pub run_le : (f : Fired) (n : ℕ) → Run f n → f.count ≤ n
  run_le f n w = omega (arith, w.count, sum_le n 1 _ (λ r l. le_of_suc-le-suc (same_lt (event_rule g r).event e)))

  module _ (f h : Fired) (n s t : ℕ) (w : Run f n) (is : s ≡ 2 ^ (event_rule g n).symbol) (met : t ≡ same (event_rule g n).event e)
      (noted : Noted t s f h) where
    once : min 1 t ≡ same (event_rule g n).event e
    once = ap (min 1) met ∙ omega (arith, same_lt (event_rule g n).event e)

    one_more : (A : ℕ) → min 1 t * bit s A ≡ turns g e A n
    unfolding turns
    one_more A = ap₂ ◌*◌ once (ap (λ (x : ℕ). bit x A) is ∙ bit_one (event_rule g n).symbol A)

    small : (A : ℕ) → turns g e A n ≤ 1
    unfolding turns
    small A = product_le _ _ (same_lt _ e) (same_lt _ A)

    pub run_step : Run h (n + 1)
    run_step = record {
      word = λ A.
          noted.word A ∙ ap₂ max (w.word A) (one_more A)
          ∙ some_add _ _ (small A) ∙ ap (min 1) (sym (sum_more n (turns g e A)));
      count = noted.count ∙ ap₂ ◌+◌ w.count met ∙ sym (sum_more n _);
    }

  pub run_done : (f : Fired) → Run f (event_rule_count g) → LeafFired g e f
  unfolding leaf_conclusions event_firings turns
  run_done f w = record { word = w.word; count = w.count }

-- what is read of an event rule of a sound grammar
pub leaf_read : (g : Grammar) → Sound g → (r s : ℕ) → r < event_rule_count g → s ≡ rule_symbol g r → (s ≡ (event_rule g r).symbol) × (s < 64)
leaf_read g ok r s h i =
    let n = ok.range.symbols in
    let e : s ≡ (event_rule g r).symbol = i ∙ leaf_symbol g r h in
    (e, omega (arith, leaf_fits_is g ok r h))

-- ---- the events that there are rules for
pub place_lt : (e : ℕ) → e % 1024 / 64 < 16
place_lt e = (div-lt_iff_lt-mul (zero-lt-suc 63)).1 (mod-lt e (zero-lt-suc 1023))

pub heard_step : (g : Grammar) (t : List ℕ) (n e : ℕ) → length t ≡ 16 → e ≡ (event_rule g n).event → Heard g t n
    → Heard g (set t (e % 1024 / 64) (put (get_or t (e % 1024 / 64) 0) (e % 64) 1)) (n + 1)
unfolding hears
heard_step g t n e long is w = record {
  at = λ r l. ⊎_elim (λ (z : r ≡ n). rw (z, ← is) new) (λ (o : r < n). older (event_rule g r).event (w.at r o)) (eq-or-lt_of_le (omega arith));
}
  where
    p : ℕ
    p = e % 1024 / 64

    here : get_or (set t p (put (get_or t p 0) (e % 64) 1)) p 0 ≡ put (get_or t p 0) (e % 64) 1
    here = get_or-set_same t p _ 0 (omega (arith, long, place_lt e))

    new : bit (get_or (set t p (put (get_or t p 0) (e % 64) 1)) p 0) (e % 64) ≡ 1
    new = ap (λ (x : ℕ). bit x (e % 64)) here ∙ put_has (get_or t p 0) (e % 64)

    older : (x : ℕ) → bit (get_or t (x % 1024 / 64) 0) (x % 64) ≡ 1 → bit (get_or (set t p (put (get_or t p 0) (e % 64) 1)) (x % 1024 / 64) 0) (x % 64) ≡ 1
    older x h = elim (ℕ_discrete (x % 1024 / 64) p) [
      | yes q ↦ ap (λ (y : ℕ). bit (get_or (set t p (put (get_or t p 0) (e % 64) 1)) y 0) (x % 64)) q ∙ ap (λ (y : ℕ). bit y (x % 64)) here
          ∙ put_keeps (get_or t p 0) (e % 64) (x % 64) (rw q at h)
      | no q ↦ ap (λ (y : ℕ). bit y (x % 64)) (get_or-set_other t p (x % 1024 / 64) _ 0 q) ∙ h
    ]

-- no rule for the event
pub unheard : (g : Grammar) (t : List ℕ) (e : ℕ) (f : Fired) → Heard g t (event_rule_count g) → bit (get_or t (e % 1024 / 64) 0) (e % 64) ≡ 0
    → f.word ≡ 0 → f.count ≡ 0 → LeafFired g e f
unfolding leaf_conclusions event_firings hears
unheard g t e f w none z c = record {
  word = λ A. ap (λ (x : ℕ). bit x A) z ∙ bit_of_zero A ∙ sym (ap (min 1) (sum_zero (event_rule_count g) _ (λ r l. ap (λ (x : ℕ). x * same (event_rule g r).symbol A) (other r l) ∙ zero-mul _)));
  count = c ∙ sym (sum_zero (event_rule_count g) _ other);
}
  where
    other : (r : ℕ) → r < event_rule_count g → same (event_rule g r).event e ≡ 0
    other r l = same_other _ e (λ q. omega (arith, none, rw q at (w.at r l)))
