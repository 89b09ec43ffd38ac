-- `derivations` rises strictly in script order, so nothing stands in it twice; it is the only such list; and it obeys `step`,
-- which speaks of shorter stretches and of no fuel.
-- Assumes nothing.
use mathlib.Core.Path.{◌≡◌, refl, sym, ap, subst₂}
use mathlib.Core.List.Memᴰ
use mathlib.Core.List.{List, [], ◌∷◌}
use Prim.Native.Nat.{ℕ, zero, suc, ◌+◌, ◌-◌, ◌<◌}
use native.Mathlib.Omega.{arith}
use lib.Dec.{eqb}
use Rattle.derivation.specs.Grammar.{Grammar, event_rule_count, pair_rule_count, pair_rule}
use Rattle.derivation.specs.Order.{less, equal}
use Rattle.derivation.specs.Tree.{Tree, leaf, node, Derives, script}
use Rattle.derivation.specs.Derivations.{join, cross, Below, leaf_fits, leaf_at, nodes_at, splits_at, level, trees, derivations}
use Rattle.derivation.proofs.Lists.{◌∈◌, join_of, cross_of, gate_of}
use Rattle.derivation.proofs.Orders.{By, before_asym, before_left, before_right, Rising, rising_append, rising_join, rising_cross, rising_gate, rising_unique}
use Rattle.derivation.proofs.Exact.{derivations_sound, derivations_complete, level_sound, level_complete}

abbrev pub Earlier : Tree → Tree → Type 0
Earlier = By script

-- the rule and the split of a tree's root: the first two words of its script
abbrev root_rule : Tree → ℕ
root_rule (leaf r p) = r
root_rule (node r j t u) = r

by_rule_is : (t u : Tree) → root_rule t < root_rule u → Earlier t u
unfolding script
by_rule_is (leaf r p) (leaf s q) l = less l
by_rule_is (leaf r p) (node s j x y) l = less l
by_rule_is (node r j x y) (leaf s q) l = less l
by_rule_is (node r j x y) (node s c a b) l = less l

by_split_is : (r i j : ℕ) (t u x y : Tree) → i < j → Earlier (node r i t u) (node r j x y)
unfolding script
by_split_is r i j t u x y l = equal refl (less l)

by_left : (r j : ℕ) (s t u v : Tree) → Earlier s t → Earlier (node r j s u) (node r j t v)
unfolding script
by_left r j s t u v e = equal refl (equal refl (before_left (script u) (script v) e))

by_right : (r j : ℕ) (t u v : Tree) → Earlier u v → Earlier (node r j t u) (node r j t v)
unfolding script
by_right r j t u v e = equal refl (equal refl (before_right (script t) e))

module _ (g : Grammar) (w : List ℕ) where
  leaf_at_root : (A i k r : ℕ) {t : Tree} → t ∈ leaf_at g w A i k r → root_rule t ≡ r
  unfolding leaf_at
  leaf_at_root A i k r m = ap root_rule (Memᴰ.eq_of_singleton (gate_of (leaf_fits g w A i k r) (leaf r (i + 1) ∷ []) m).1)

  nodes_at_root : (below : Below) (A i k b j : ℕ) {t : Tree} → t ∈ nodes_at g below A i k b j
      → (x : Tree) × (y : Tree) × (t ≡ node (event_rule_count g + b) j x y)
  unfolding nodes_at
  nodes_at_root below A i k b j m =
      let p = pair_rule g b in
      let n = node (event_rule_count g + b) j in
      let a = cross_of n (below p.left i j) (below p.right j k)
      (gate_of (eqb p.symbol A) (cross n (below p.left i j) (below p.right j k)) m).1 in
      (a.0, a.1, a.4)

  leaf_at_rising : (A i k r : ℕ) → Rising Earlier (leaf_at g w A i k r)
  unfolding leaf_at
  leaf_at_rising A i k r =
      rising_gate Earlier (leaf_fits g w A i k r) (leaf r (i + 1) ∷ []) (λ y m. absurd (Memᴰ.not-nil m), tt)

  nodes_at_rising : (below : Below) → ((B x y : ℕ) → Rising Earlier (below B x y)) → (A i k b j : ℕ)
      → Rising Earlier (nodes_at g below A i k b j)
  unfolding nodes_at
  nodes_at_rising below ih A i k b j =
      let p = pair_rule g b in
      let r : ℕ = event_rule_count g + b in
      rising_gate Earlier (eqb p.symbol A) (cross (node r j) (below p.left i j) (below p.right j k))
      (rising_cross Earlier (node r j) (by_right r j) (by_left r j) (below p.left i j) (below p.right j k)
      (ih p.left i j) (ih p.right j k))

  splits_at_root : (below : Below) (A i k b : ℕ) {t : Tree} → t ∈ splits_at g below A i k b → root_rule t ≡ event_rule_count g + b
  unfolding splits_at
  splits_at_root below A i k b m =
      let a = join_of (k - (i + 1)) (λ x. nodes_at g below A i k b (i + 1 + x)) m in
      ap root_rule (nodes_at_root below A i k b (i + 1 + a.0) a.2).2

  splits_at_rising : (below : Below) → ((B x y : ℕ) → Rising Earlier (below B x y)) → (A i k b : ℕ)
      → Rising Earlier (splits_at g below A i k b)
  unfolding splits_at
  splits_at_rising below ih A i k b =
      rising_join Earlier (k - (i + 1)) (λ x. nodes_at g below A i k b (i + 1 + x)) (λ x n. nodes_at_rising below ih A i k b (i + 1 + x))
      (λ r s x y n m p q.
      let c = nodes_at_root below A i k b (i + 1 + r) p in
      let d = nodes_at_root below A i k b (i + 1 + s) q in
      subst₂ Earlier (sym c.2) (sym d.2) (by_split_is (event_rule_count g + b) (i + 1 + r) (i + 1 + s) c.0 c.1 d.0 d.1 (omega arith)))

  level_rising : (below : Below) → ((B x y : ℕ) → Rising Earlier (below B x y)) → (A i k : ℕ)
      → Rising Earlier (level g w below A i k)
  unfolding level
  level_rising below ih A i k =
      rising_append Earlier (join (event_rule_count g) (leaf_at g w A i k)) (join (pair_rule_count g) (splits_at g below A i k))
      (rising_join Earlier (event_rule_count g) (leaf_at g w A i k) (λ r l. leaf_at_rising A i k r)
      (λ r s x y l m p q. by_rule_is x y (omega (arith, leaf_at_root A i k r p, leaf_at_root A i k s q))))
      (rising_join Earlier (pair_rule_count g) (splits_at g below A i k) (λ b l. splits_at_rising below ih A i k b)
      (λ r s x y l m p q. by_rule_is x y (omega (arith, splits_at_root below A i k r p, splits_at_root below A i k s q))))
      (λ x y p q.
      let a = join_of (event_rule_count g) (leaf_at g w A i k) p in
      let b = join_of (pair_rule_count g) (splits_at g below A i k) q in
      by_rule_is x y (omega (arith, a.1, leaf_at_root A i k a.0 a.2, splits_at_root below A i k b.0 b.2)))

  -- the list is strictly rising, so it has no repeats
  pub rising : (f A i k : ℕ) → Rising Earlier (trees g w f A i k)
  unfolding trees
  rising zero A i k = tt
  rising (suc f) A i k = level_rising (λ B x y. trees g w f B x y) (λ B x y. rising f B x y) A i k

  pub derivations_rising : (A i k : ℕ) → Rising Earlier (derivations g w A i k)
  unfolding derivations
  derivations_rising A i k = rising (k - i) A i k

  -- the numbering is the only one
  unique : (A i k : ℕ) (l : List Tree) → Rising Earlier l → ((t : Tree) → t ∈ l → Derives g w A i k t)
      → ((t : Tree) → Derives g w A i k t → t ∈ l) → l ≡ derivations g w A i k
  unique A i k l r s c =
      rising_unique Earlier (λ t u. before_asym) l (derivations g w A i k) r (derivations_rising A i k)
      (λ t m. derivations_complete g w A i k t (s t m)) (λ t m. c t (derivations_sound g w A i k m))

  -- the derivations over (i, k) from those over the shorter stretches: no fuel
  pub step : (A i k : ℕ) → derivations g w A i k ≡ level g w (derivations g w) A i k
  step A i k =
      sym
      (unique A i k (level g w (derivations g w) A i k) (level_rising (derivations g w) derivations_rising A i k)
      (λ t m. level_sound g w (derivations g w) (λ B x y u n. derivations_sound g w B x y n) A i k m) (level_complete g w A i k))
