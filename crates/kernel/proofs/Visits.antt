-- The set symbols of the left word, each visited once, add what all pair rules add: the sum over symbols and their rules is
-- the sum over rules, because each rule has one left symbol.
-- Assumes nothing.
use mathlib.Core.Path.{◌≡◌, sym, ap, ◌∙◌}
use Prim.Native.Nat.{ℕ, zero, suc, ◌+◌, ◌*◌, ◌^◌, ◌≤◌, ◌<◌, max, min}
use native.Mathlib.Nat.{add-zero, max-zero}
use native.Mathlib.Omega.{arith}
use Rattle.bits.specs.Truth.{same}
use Rattle.bits.specs.Sum.{sum}
use Rattle.bits.specs.Bit.{bit}
use Rattle.bits.specs.Word.{Without}
use Rattle.bits.proofs.Sums.{sum_cong, sum_swap, sum_scale, sum_le, sum_at, some_left}
use Rattle.bits.proofs.Bits.{bit_lt}
use Rattle.bits.proofs.Visited.{visited, none_visited, all_visited, part_less, one_visited, visited_le}
use Rattle.derivation.specs.Grammar.{Grammar, pair_rule_count, pair_rule}
use Rattle.groups.specs.Group.{sum_by_left}
use Rattle.kernel.specs.declared.Fired.{Fired}
use Rattle.kernel.specs.Apply.{matching, concluding, Applied}

-- m s R: how often the left symbol s and a right symbol with the word R match
module _ (g : Grammar) (u : ℕ) (m : ℕ → ℕ → ℕ) where
  -- the matches of rule b, and those of them that conclude A
  unfoldable pub rule_matches : ℕ → ℕ
  rule_matches b = bit u (pair_rule g b).left * m (pair_rule g b).left (2 ^ (pair_rule g b).right)

  unfoldable pub rule_conclusions : (A b : ℕ) → ℕ
  rule_conclusions A b = bit u (pair_rule g b).left * (m (pair_rule g b).left (2 ^ (pair_rule g b).right) * bit (2 ^ (pair_rule g b).symbol) A)

  -- ---- all symbols of u but those of rest are visited, in any order
  pub record Visit (was now : Fired) (rest : ℕ) : Type 0 where
    pub part : (s : ℕ) → bit rest s ≤ bit u s
    pub word : (A : ℕ) → bit now.word A ≡ max (bit was.word A) (min 1 (visited u rest (λ s. sum_by_left g s (concluding (m s) A) (pair_rule_count g))))
    pub count : now.count ≡ was.count + visited u rest (λ s. sum_by_left g s (matching (m s)) (pair_rule_count g))

  pub visit_start : (f : Fired) → Visit f f u
  visit_start f = record {
    part = λ s. omega arith;
    word = λ A. sym (max-zero (bit f.word A)) ∙ ap (λ (s : ℕ). max (bit f.word A) (min 1 s)) (sym (none_visited u _));
    count = sym (add-zero f.count) ∙ ap (λ (s : ℕ). f.count + s) (sym (none_visited u _));
  }

  pub visit_step : (was f h : Fired) (rest a less : ℕ) → a < 64 → Without rest a less → Visit was f rest → Applied g (m a) a f h → Visit was h less
  visit_step was f h rest a less small n w o = record {
    part = part_less u rest a less w.part n;
    word = λ A.
        o.word A ∙ some_left (bit was.word A) _ (bit f.word A) (w.word A) _
        ∙ ap (λ (s : ℕ). max (bit was.word A) (min 1 s)) (sym (one_visited u rest a less w.part n small (λ s. sum_by_left g s (concluding (m s) A) (pair_rule_count g))));
    count = omega (arith, o.count, w.count, one_visited u rest a less w.part n small (λ s. sum_by_left g s (matching (m s)) (pair_rule_count g)));
  }

  -- ---- all of them
  module _ (fits : (b : ℕ) → b < pair_rule_count g → (pair_rule g b).left < 64) where
    one_left : (G : ℕ → ℕ) (b : ℕ) → b < pair_rule_count g → sum 64 (λ s. bit u s * (same (pair_rule g b).left s * G s)) ≡ bit u (pair_rule g b).left * G (pair_rule g b).left
    one_left G b l = sum_cong 64 _ _ (λ s h. turn (bit u s) (same (pair_rule g b).left s) (G s)) ∙ sum_at 64 (pair_rule g b).left (λ s. bit u s * G s) (fits b l)
      where
        turn : (x y z : ℕ) → x * (y * z) ≡ x * z * y
        turn x y z = omega arith

    over_rules : (F : ℕ → ℕ → ℕ → ℕ) → sum 64 (λ s. bit u s * sum_by_left g s (F s) (pair_rule_count g))
        ≡ sum (pair_rule_count g) (λ b. bit u (pair_rule g b).left * F (pair_rule g b).left (2 ^ (pair_rule g b).right) (2 ^ (pair_rule g b).symbol))
    unfolding sum_by_left
    over_rules F =
        sum_cong 64 _ _ (λ s h. sym (sum_scale (pair_rule_count g) (bit u s) (λ b. same (pair_rule g b).left s * F s (2 ^ (pair_rule g b).right) (2 ^ (pair_rule g b).symbol))))
        ∙ sum_swap 64 (pair_rule_count g) (λ s b. bit u s * (same (pair_rule g b).left s * F s (2 ^ (pair_rule g b).right) (2 ^ (pair_rule g b).symbol)))
        ∙ sum_cong (pair_rule_count g) _ _ (λ b l. one_left (λ s. F s (2 ^ (pair_rule g b).right) (2 ^ (pair_rule g b).symbol)) b l)

    matched : sum 64 (λ s. bit u s * sum_by_left g s (matching (m s)) (pair_rule_count g)) ≡ sum (pair_rule_count g) rule_matches
    unfolding matching rule_matches
    matched = over_rules (λ s. matching (m s))

    concluded : (A : ℕ) → sum 64 (λ s. bit u s * sum_by_left g s (concluding (m s) A) (pair_rule_count g)) ≡ sum (pair_rule_count g) (rule_conclusions A)
    unfolding concluding rule_conclusions
    concluded A = over_rules (λ s. concluding (m s) A)

    -- no more matches were counted than there are
    pub visit_few : (was f : Fired) (rest c : ℕ) → ((b : ℕ) → b < pair_rule_count g → m (pair_rule g b).left (2 ^ (pair_rule g b).right) ≤ c)
        → Visit was f rest → f.count ≤ was.count + pair_rule_count g * c
    unfolding rule_matches
    visit_few was f rest c few w =
        omega (arith, w.count, visited_le u rest (λ s. sum_by_left g s (matching (m s)) (pair_rule_count g)), matched, sum_le (pair_rule_count g) c rule_matches (λ b l. part _ _ c (bit_lt u _) (few b l)))
      where
        part : (x y c : ℕ) → x < 2 → y ≤ c → x * y ≤ c
        part zero y c l h = omega arith
        part (suc zero) y c l h = omega arith
        part (suc (suc x)) y c l h = absurd (omega arith)

    module _ (was f : Fired) (rest : ℕ) (z : rest ≡ 0) (w : Visit was f rest) where
      pub visit_word : (A : ℕ) → bit f.word A ≡ max (bit was.word A) (min 1 (sum (pair_rule_count g) (rule_conclusions A)))
      visit_word A = w.word A ∙ ap (λ (s : ℕ). max (bit was.word A) (min 1 s)) (ap (λ (r : ℕ). visited u r (λ s. sum_by_left g s (concluding (m s) A) (pair_rule_count g))) z ∙ all_visited u _ ∙ concluded A)

      pub visit_count : f.count ≡ was.count + sum (pair_rule_count g) rule_matches
      visit_count = w.count ∙ ap (λ (s : ℕ). was.count + s) (ap (λ (r : ℕ). visited u r (λ s. sum_by_left g s (matching (m s)) (pair_rule_count g))) z ∙ all_visited u _ ∙ matched)
