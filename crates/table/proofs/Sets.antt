-- What the splits of a set add up to, visited one by one; and the set of the words that are not 0, word by word.
-- Assumes nothing.
use mathlib.Core.Path.{◌≡◌, refl, sym, ap, ◌∙◌}
use mathlib.Core.Bool.{not}
use mathlib.Core.Logic.{⊎_elim}
use mathlib.Core.List.{List}
use Prim.Native.Nat.{ℕ, zero, suc, ◌+◌, ◌-◌, ◌*◌, ◌^◌, ◌≤◌, ◌<◌, min, max}
use native.Mathlib.Nat.{le_trans, eq-or-lt_of_le}
use native.Mathlib.Omega.{arith}
use lib.ListN.{length, get_or, take, drop}
use lib.Dec.{eqb}
use borrow.Author.Tests.{ne_eqb}
use mir.Val.{bool_byte}
use Rattle.std.proofs.lemmas.List.{places}
use lib.Bits.{bit_or}
use Rattle.bits.specs.Truth.{same}
use Rattle.bits.specs.Sum.{sum}
use Rattle.bits.specs.Bit.{bit}
use Rattle.bits.specs.Word.{put, Without}
use Rattle.bits.proofs.Truths.{same_refl, same_other}
use Rattle.bits.proofs.Sums.{sum_le}
use Rattle.bits.proofs.Bits.{bit_lt, bit_or_is, bit_shift, bit_of_zero}
use Rattle.bits.proofs.Visited.{visited, none_visited, all_visited, part_less, one_visited, visited_le}
use Rattle.table.specs.Table.{limit}
use Rattle.table.specs.Fill.{Nonzero}

-- ---- F of each of the numbers of a set that are not in rest
module _ (set : ℕ) (F : ℕ → ℕ) (few : (x : ℕ) → F x ≤ limit) where
  pub record Added (total rest : ℕ) : Type 0 where
    pub part : (s : ℕ) → bit rest s ≤ bit set s
    pub is : total ≡ visited set rest F

  pub added_start : Added 0 set
  added_start = record { part = λ s. omega arith; is = sym (none_visited set F) }

  pub added_step : (total rest a less x : ℕ) → a < 64 → Without rest a less → x ≡ F a → Added total rest → Added (total + x) less
  added_step total rest a less x small n e w = record {
    part = part_less set rest a less w.part n;
    is = omega (arith, w.is, one_visited set rest a less w.part n small F);
  }

  all_few : sum 64 (λ s. bit set s * F s) ≤ 64 * limit
  all_few = sum_le 64 limit _ (λ s l. part (bit set s) (F s) (bit_lt set s) (few s))
    where
      part : (x y : ℕ) → x < 2 → y ≤ limit → x * y ≤ limit
      part zero y l h = omega arith
      part (suc zero) y l h = omega arith
      part (suc (suc x)) y l h = absurd (omega arith)

  pub added_few : (total rest : ℕ) → Added total rest → total ≤ 64 * limit
  added_few total rest w = le_trans (le_trans (omega (arith, w.is)) (visited_le set rest F)) all_few

  pub added_done : (total rest : ℕ) → rest ≡ 0 → Added total rest → total ≡ sum 64 (λ s. bit set s * F s)
  added_done total rest z w = w.is ∙ ap (λ (r : ℕ). visited set r F) z ∙ all_visited set F

-- ---- the set of the first n words from base on that are not 0
module _ (t : List ℕ) (base : ℕ) where
  pub record Gathered (n w : ℕ) : Type 0 where
    pub at : (A : ℕ) → A < n → bit w A ≡ min 1 (get_or t (base + A) 0)
    pub high : (A : ℕ) → n ≤ A → bit w A ≡ 0

  pub gathered_start : Gathered 0 0
  gathered_start = record { at = λ A l. absurd (omega arith); high = λ A l. bit_of_zero A }

  pub gathered_step : (n w hit : ℕ) → hit ≡ min 1 (get_or t (base + n) 0) → Gathered n w → Gathered (n + 1) (put w n hit)
  unfolding put
  gathered_step n w hit e g = record {
    at = λ A l. with_bit A ∙ ⊎_elim
        (λ (q : A ≡ n). rw (q, same_refl n) (omega (arith, g.high n (omega arith))))
        (λ (o : A < n). rw (same_other n A (λ q. omega arith)) (omega (arith, g.at A o)))
        (eq-or-lt_of_le (omega arith));
    high = λ A l. with_bit A ∙ rw (same_other n A (λ q. omega arith)) (omega (arith, g.high A (omega arith)));
  }
    where
      with_bit : (A : ℕ) → bit (bit_or w (hit * 2 ^ n)) A ≡ max (bit w A) (hit * same n A)
      with_bit A = bit_or_is w (hit * 2 ^ n) A ∙ ap (max (bit w A)) (bit_shift hit n A (omega (arith, e)))

-- a word that is not 0, as the code asks
pub some_is : (x : ℕ) → bool_byte (not (eqb x 0)) ≡ min 1 x
some_is zero = refl
some_is (suc x) = rw (ne_eqb (suc x) 0 (λ e. omega arith)) (omega arith)

-- those of a part of the table
pub nonzero_part : (t : List ℕ) (base n w : ℕ) → base + n ≤ length t → Nonzero (take (base + n - base) (drop base t)) 0 (length (take (base + n - base) (drop base t))) w → Nonzero t base n w
nonzero_part t base n w fits z =
    let long : length (take (base + n - base) (drop base t)) ≡ n = grind (arith, places) in
    let word : (A : ℕ) → A < n → get_or (take (base + n - base) (drop base t)) (0 + A) 0 ≡ get_or t (base + A) 0 = λ A l. grind (arith, places) in
    record { at = λ A l. z.at A (rw long l) ∙ ap (min 1) (word A l) }
