-- What stands before a derivation, added up in numbers held at the limit: one turn of each loop, and the place behind it all.
-- Assumes nothing.
use Prim.Native.Nat.{ℕ, ◌+◌, ◌*◌, ◌<◌}
use native.Mathlib.Nat.{add_assoc}
use native.Mathlib.Omega.{arith}
use mathlib.Core.Path.{◌≡◌, refl, sym, ap, ◌∙◌}
use mathlib.Core.List.{List}
use lib.ListN.{get_or}
use Rattle.bits.specs.Sum.{sum, between}
use Rattle.bits.proofs.Sums.{sum_more, between_none, between_more}
use Rattle.derivation.specs.Grammar.{Grammar}
use Rattle.lookup.specs.declared.Pair.{Pair}
use Rattle.lookup.specs.Rule.{PairIs}
use Rattle.table.specs.Table.{held, slot_of}
use Rattle.table.specs.Fill.{split_adds, pair_adds}
use Rattle.table.proofs.Held.{held_on}
use Rattle.table.proofs.Cells.{pair_adds_is, pair_other}
use Rattle.rank.specs.Rank.{place_of}

-- ---- splits
pub splits_start : (i : ℕ) (f : ℕ → ℕ) → 0 ≡ held (between i (i + 1) f)
splits_start i f = omega (arith, between_none i (i + 1) f (omega arith))

pub splits_on : (i j total share v : ℕ) (f : ℕ → ℕ) → i < j → total ≡ held (between i j f) → share ≡ f j → v ≡ held (total + share) → v ≡ held (between i (j + 1) f)
splits_on i j total share v f l a b e = omega (arith, between_more i j f l)

-- ---- rules
pub rules_start : (f : ℕ → ℕ) → 0 ≡ held (sum 0 f)
unfolding sum
rules_start f = refl

module _ (g : Grammar) (t : List ℕ) (A i k q total : ℕ) (a : total ≡ held (sum q (pair_adds g t i k A))) (N : ℕ) (v : Pair) (en : N ≡ g.symbols) (p : PairIs g q v) where
  pub rule_added : (share x : ℕ) → v.symbol ≡ A → share ≡ held (between i k (split_adds t N v.left v.right i k)) → x ≡ held (total + share)
      → x ≡ held (sum (q + 1) (pair_adds g t i k A))
  rule_added share x e s h =
      let m = rw (en, p.left, p.right) at s in
      omega (arith, sum_more q (pair_adds g t i k A), pair_adds_is g t i k q A (sym p.symbol ∙ e))

  pub rule_passed : (v.symbol ≡ A → ⊥) → total ≡ held (sum (q + 1) (pair_adds g t i k A))
  rule_passed e = omega (arith, sum_more q (pair_adds g t i k A), pair_other g t i k q A (λ z. e (p.symbol ∙ z)))

-- ---- what is before a node, and the node's own place behind it
pub place_of_is : (g : Grammar) (t : List ℕ) (i k b j x y N : ℕ) (v : Pair) → N ≡ g.symbols → PairIs g b v → (rules splits word lefts : ℕ)
    → rules ≡ held (sum b (pair_adds g t i k v.symbol)) → splits ≡ held (between i j (split_adds t N v.left v.right i k))
    → word ≡ get_or t (slot_of N v.right j k) 0 → lefts ≡ held (x * word) → (before inside r : ℕ)
    → before ≡ held (rules + splits) → inside ≡ held (lefts + y) → r ≡ held (before + inside) → r ≡ held (place_of g t i k b j x y)
unfolding place_of
place_of_is g t i k b j x y N v en p rules splits word lefts er es ew el before inside r eb ei e =
    let word-is = rw (en, p.right) at ew in
    let whole = held_on _ before _ r inside
    (held_on _ rules _ before splits (rw p.symbol at er) (rw (en, p.left, p.right) at es) eb)
    (within _ lefts y inside (rw word-is at el) ei) e in
    whole ∙ ap held (add_assoc _ _ _)
  where
    within : (s t y v : ℕ) → t ≡ held s → v ≡ held (t + y) → v ≡ held (s + y)
    within s t y v a b = omega arith
