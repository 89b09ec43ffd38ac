-- What is ready for a right word, symbol after symbol; and that it adds to any cell what the rules would.
-- Assumes nothing.
use mathlib.Core.Path.{◌≡◌, ap, ◌∙◌}
use mathlib.Core.List.{List}
use Prim.Native.Nat.{ℕ, ◌+◌, ◌*◌, ◌^◌, ◌≤◌, ◌<◌, max}
use native.Mathlib.Decide.{ℕ_discrete}
use native.Mathlib.Omega.{arith}
use lib.Bits.{bit_or}
use lib.ListN.{length, get_or, set}
use lib.Seq.{get_or-set_same, get_or-set_other}
use Rattle.bits.specs.Truth.{same}
use Rattle.bits.specs.Bit.{bit}
use Rattle.bits.specs.Word.{Has, Without}
use Rattle.bits.proofs.Truths.{same_lt, same_other}
use Rattle.bits.proofs.Sums.{sum_le, product_le}
use Rattle.bits.proofs.Bits.{bit_lt, bit_or_is, bit_of_zero}
use Rattle.derivation.specs.Grammar.{Grammar, pair_rule_count, pair_rule}
use Rattle.groups.specs.Group.{sum_by_left}
use Rattle.kernel.specs.declared.Fired.{Fired}
use Rattle.kernel.specs.Apply.{matching, over, Applied, nothing, ReadyAt, Ready}
use Rattle.kernel.proofs.Pairs.{over_le}

module _ (g : Grammar) (v u : ℕ) where
  -- ---- all symbols of u but those of rest are ready
  pub record Made (rest : ℕ) (t : List Fired) : Type 0 where
    pub at : (a : ℕ) → Has u a → bit rest a ≡ 0 → ReadyAt g v a t

  module _ (rest s less : ℕ) (t : List Fired) (f : Fired) (small : s < length t) (w : Without rest s less) (m : Made rest t)
      (is : Applied g (over v) s nothing f) where
    ready_now : (a : ℕ) → Has u a → bit less a ≡ 0 → Dec (a ≡ s) → ReadyAt g v a (set t s f)
    ready_now a h z (yes e) = record { made = rw (e, get_or-set_same t s f nothing small) is }
    ready_now a h z (no e) =
        let z' : bit rest a ≡ 0 = omega (arith, z, w.bits a, same_other s a (λ d. omega (arith, d, e))) in
        record { made = rw (get_or-set_other t s a f nothing e) (m.at a h z').made }

    pub made_more : Made less (set t s f)
    made_more = record { at = λ a h z. ready_now a h z (ℕ_discrete a s) }

  pub made_all : (rest : ℕ) (t : List Fired) → rest ≡ 0 → Made rest t → Ready g v u t
  made_all rest t e m = record { at = λ a h. m.at a h (ap (λ (x : ℕ). bit x a) e ∙ bit_of_zero a) }

  -- of fewer symbols
  pub ready_part : (w : ℕ) (t : List Fired) → ((a : ℕ) → bit w a ≤ bit u a) → Ready g v u t → Ready g v w t
  ready_part w t part r = record { at = λ a h. r.at a (omega (arith, h, part a, bit_lt u a)) }

module _ (g : Grammar) (v : ℕ) where
  -- ---- into a cell
  pub taken : (t : List Fired) (a : ℕ) (was now : Fired) → ReadyAt g v a t → now.word ≡ bit_or was.word (get_or t a nothing).word
      → now.count ≡ was.count + (get_or t a nothing).count → Applied g (over v) a was now
  taken t a was now r w c = record {
    word = λ A. ap (λ (x : ℕ). bit x A) w ∙ bit_or_is was.word (get_or t a nothing).word A ∙ ap (max (bit was.word A)) (r.made.word A ∙ omega (arith, bit_of_zero A));
    count = omega (arith, c, r.made.count);
  }

  pub ready_few : (t : List Fired) (a : ℕ) → ReadyAt g v a t → (get_or t a nothing).count ≤ pair_rule_count g
  unfolding sum_by_left matching
  ready_few t a r = omega (
    arith,
    r.made.count,
    sum_le (pair_rule_count g) 1 (λ b. same (pair_rule g b).left a * over v (2 ^ (pair_rule g b).right))
        (λ b l. product_le _ _ (same_lt _ _) (omega (arith, over_le v (2 ^ (pair_rule g b).right)))),
  )
