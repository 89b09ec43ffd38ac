-- A walk over the places of one group: after m of them the word and the count are what those rules add, and after all of them what
-- all pair rules with that left symbol add.
-- Assumes nothing.
use mathlib.Core.Path.{◌≡◌, sym, ap, ◌∙◌, subst}
use Prim.Native.Nat.{ℕ, ◌+◌, ◌*◌, ◌^◌, ◌≤◌, ◌<◌, max, min}
use native.Mathlib.Nat.{add-zero, max-zero}
use native.Mathlib.Omega.{arith}
use mathlib.Core.List.{List}
use lib.Bits.{bit_or}
use lib.ListN.{length, get_or}
use Rattle.bits.specs.Sum.{sum}
use Rattle.bits.specs.Bit.{bit}
use Rattle.bits.proofs.Sums.{sum_more, some_mul, some_left}
use Rattle.bits.proofs.Bits.{bit_lt, bit_or_is}
use Rattle.derivation.specs.Grammar.{Grammar, pair_rule_count, pair_rule}
use Rattle.derivation.specs.Sound.{Sound}
use Rattle.groups.proofs.Read.{parts_small}
use Rattle.groups.proofs.Places.{ends_of, place_rule}
use Rattle.kernel.specs.declared.Fired.{Fired}
use Rattle.kernel.specs.Fire.{Noted}
use Rattle.groups.specs.declared.Rule.{Rule}
use Rattle.groups.specs.declared.Groups.{Groups}
use Rattle.groups.specs.Group.{lefts, start_of, no_rule, rule_at, group_from, place_right, place_symbol, RulesOf, Grouped}
use Rattle.kernel.specs.Apply.{matching, concluding, Applied, Callable, Tells}

-- F of the rule at place `from + y` of the regrouped rules
unfoldable pub rule_in : ℕ → Groups → (ℕ → ℕ → ℕ) → ℕ → ℕ
rule_in from t F y = F (place_right t (from + y)) (place_symbol t (from + y))

module _ (m : ℕ → ℕ) (from : ℕ) (t : Groups) where
  pub record Walk (was now : Fired) (n : ℕ) : Type 0 where
    pub word : (A : ℕ) → bit now.word A ≡ max (bit was.word A) (min 1 (sum n (rule_in from t (concluding m A))))
    pub count : now.count ≡ was.count + sum n (rule_in from t (matching m))

  pub walk_start : (f : Fired) → Walk f f 0
  unfolding sum
  walk_start f = record { word = λ A. sym (max-zero (bit f.word A)); count = sym (add-zero f.count) }

  module _ (was f h : Fired) (n matches : ℕ) (rule : Rule) (w : Walk was f n) (e : rule ≡ rule_at t (from + n)) (is : matches ≡ m rule.right)
      (noted : Noted matches rule.symbol f h) where
    matched : matches ≡ rule_in from t (matching m) n
    unfolding rule_in matching
    matched = is ∙ ap (λ (r : Rule). m r.right) e

    concluded : (A : ℕ) → min 1 matches * bit rule.symbol A ≡ min 1 (rule_in from t (concluding m A) n)
    unfolding rule_in concluding
    concluded A = ap (λ (y : ℕ). min 1 y * bit rule.symbol A) is ∙ ap (λ (r : Rule). min 1 (m r.right) * bit r.symbol A) e ∙ some_scaled _ _ (bit_lt _ A)
      where
        some_scaled : (x y : ℕ) → y < 2 → min 1 x * y ≡ min 1 (x * y)
        some_scaled x y l = sym (some_mul x y ∙ ap (λ (z : ℕ). min 1 x * z) (omega arith))

    pub walk_step : Walk was h (n + 1)
    walk_step = record {
      word = λ A.
          noted.word A ∙ ap (λ (y : ℕ). max (bit f.word A) y) (concluded A) ∙ some_left (bit was.word A) _ _ (w.word A) _
          ∙ ap (λ (s : ℕ). max (bit was.word A) (min 1 s)) (sym (sum_more n (rule_in from t (concluding m A))));
      count = omega (arith, noted.count, matched, w.count, sum_more n (rule_in from t (matching m)));
    }

-- all of the group
pub walk_done : (g : Grammar) (t : Groups) → Grouped g t → (m : ℕ → ℕ) (a : ℕ) → a < 64 → (was f : Fired)
    → Walk m (start_of g a) t was f (lefts g a (pair_rule_count g)) → Applied g m a was f
unfolding rule_in
walk_done g t p m a h was f w = record {
  word = λ A. w.word A ∙ ap (λ (s : ℕ). max (bit was.word A) (min 1 s)) (p.sums (concluding m A) a h);
  count = w.count ∙ ap (λ (s : ℕ). was.count + s) (p.sums (matching m) a h);
}

-- ---- the rules of a group
module _ (g : Grammar) (t : Groups) (p : Grouped g t) (ok : Sound g) (a : ℕ) (small : a < 64) (rules : List Rule) (of : RulesOf t a rules) (y : ℕ) (in_group : y < length rules) where
  -- a rule's right symbol, as the word of that one bit
  pub one_symbol : (s : ℕ) × (s < 64) × (2 ^ s ≡ (get_or rules y no_rule).right)
  one_symbol =
      let n = ends_of g t a p ok.range.pairs small in
      let b = place_rule g t p a (group_from t a + y) small (omega (arith, n.from)) (omega (arith, n.from, n.to, of.long)) in
      ((pair_rule g b.0).right, (parts_small g ok b.0 b.1).1, b.2 ∙ ap (λ (r : Rule). r.right) (sym (of.at y in_group)))

-- a call at it
pub called_at : (pre : ℕ → Type 0) (post : ℕ → ℕ → Type 0) (R : ℕ) → (s : ℕ) × (s < 64) × (2 ^ s ≡ R) → Callable pre post
    → pre R × ((y : ℕ) → post R y → y ≤ 128)
called_at pre post R o h = subst (λ (x : ℕ). pre x × ((y : ℕ) → post x y → y ≤ 128)) o.2 (h o.0 o.1)

pub told_at : (post : ℕ → ℕ → Type 0) (m : ℕ → ℕ) (R y : ℕ) → (s : ℕ) × (s < 64) × (2 ^ s ≡ R) → Tells post m → post R y → y ≡ m R
told_at post m R y o h = subst (λ (x : ℕ). post x y → y ≡ m x) o.2 (h o.0 y o.1)

-- ---- matches of one rule
pub some_noted : (n s : ℕ) (f h : Fired) → 0 < n → h.word ≡ bit_or f.word s → h.count ≡ f.count + n → Noted n s f h
some_noted n s f h p w c =
    let e : min 1 n ≡ 1 = omega arith in
    record {
      word = λ A. ap (λ (x : ℕ). bit x A) w ∙ bit_or_is f.word s A ∙ ap (max (bit f.word A)) (rw e (omega arith));
      count = c;
    }
