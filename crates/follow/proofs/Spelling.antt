-- What a script says of its first two words and of its two parts, and the other way round: one step of the checker.
-- Assumes nothing.
use Prim.Native.Nat.{ℕ, suc, ◌+◌, ◌-◌, ◌*◌, ◌≤◌, ◌<◌}
use native.Mathlib.Nat.{le_refl}
use native.Mathlib.Omega.{arith}
use mathlib.Core.Path.{◌≡◌, refl, sym, ap, subst, ◌∙◌}
use mathlib.Core.Bool.{Bool}
use mathlib.Core.List.{List, [], ◌∷◌, ◌++◌}
use lib.ListN.{length, get_or, take, drop, length-drop, take-append-drop}
use lib.Seq.{length-take-le, take_at, drop_at, take_all, drop-drop}
use Rattle.derivation.specs.Grammar.{Grammar, event_rule_count, pair_rule}
use Rattle.derivation.specs.Tree.{Tree, leaf, node, script, script_word_count, Spells, LeafOk, NodeOk, Derives}
use Rattle.derivation.proofs.Lists.{no_length}
use Rattle.derivation.proofs.Exact.{some_events}
use Rattle.derivation.proofs.Scripts.{script_length}
use Rattle.bits.specs.Truth.{Decides}
use Rattle.bits.proofs.Truths.{decides_as}

two : (s : List ℕ) → 2 ≤ length s → s ≡ get_or s 0 0 ∷ get_or s 1 0 ∷ drop 2 s
two [] h = absurd (omega arith)
two (a ∷ []) h = absurd (omega arith)
two (a ∷ b ∷ s) h = refl

-- the words of the left part and of the right part, where the right one starts at m
abbrev pub left_words : ℕ → List ℕ → List ℕ
left_words m s = take (m - 2) (drop 2 s)

abbrev pub right_words : ℕ → List ℕ → List ℕ
right_words m s = take (length s - m) (drop m s)

module _ (g : Grammar) (w : List ℕ) (A i k : ℕ) (s : List ℕ) where
  pub spells_leaf : length s ≡ script_word_count (k - i) → k ≡ i + 1 → LeafOk g w A i k (get_or s 0 0) (get_or s 1 0) → Spells g w A i k s
  unfolding script
  spells_leaf l e h = record {
    tree = leaf (get_or s 0 0) (get_or s 1 0);
    derives = h;
    spelt = sym (two s (omega arith) ∙ ap (λ (x : List ℕ). get_or s 0 0 ∷ get_or s 1 0 ∷ x) (no_length (drop 2 s) (length-drop 2 s ∙ omega arith)));
  }

  leaf_of : (t : Tree) → Derives g w A i k t → script t ≡ s → k ≡ i + 1 → LeafOk g w A i k (get_or s 0 0) (get_or s 1 0)
  unfolding script
  leaf_of (leaf r p) d e h = subst (λ (x : List ℕ). LeafOk g w A i k (get_or x 0 0) (get_or x 1 0)) e d
  leaf_of (node r j t u) d e h = absurd (omega arith)

  pub spelt_leaf : k ≡ i + 1 → Spells g w A i k s → LeafOk g w A i k (get_or s 0 0) (get_or s 1 0)
  spelt_leaf h p = leaf_of p.tree p.derives p.spelt h

-- a root, and the two parts' scripts
pub record Parts (g : Grammar) (w : List ℕ) (A i k r j : ℕ) (left right : List ℕ) : Type 0 where
  pub root : NodeOk g A i k r j
  pub first : Spells g w (pair_rule g (r - event_rule_count g)).left i j left
  pub second : Spells g w (pair_rule g (r - event_rule_count g)).right j k right

module _ (g : Grammar) (w : List ℕ) (A i k : ℕ) where
  rejoin : (m : ℕ) (s : List ℕ) → 2 ≤ m → m ≤ length s → left_words m s ++ right_words m s ≡ drop 2 s
  rejoin m s h l = let eq : 2 + (m - 2) ≡ m = omega arith in ap (λ (x : List ℕ). left_words m s ++ x) (take_all (length s - m) (drop m s) (simp length-drop (omega arith))
      ∙ rw eq at (sym (drop-drop (m - 2) 2 s))) ∙ take-append-drop (m - 2) (drop 2 s)

  script_node : (s : List ℕ) (m : ℕ) (t u : Tree) → length s ≡ script_word_count (k - i) → m ≡ 4 * (get_or s 1 0 - i) → i < get_or s 1 0 → get_or s 1 0 < k
      → script t ≡ left_words m s → script u ≡ right_words m s → script (node (get_or s 0 0) (get_or s 1 0) t u) ≡ s
  unfolding script
  script_node s m t u l e a b p q = ap (λ (x : List ℕ). get_or s 0 0 ∷ get_or s 1 0 ∷ x) (rw (p, q) (rejoin m s (omega arith) (omega arith))) ∙ sym (two s (omega arith))

  pub spells_node : (s : List ℕ) (m : ℕ) → length s ≡ script_word_count (k - i) → m ≡ 4 * (get_or s 1 0 - i) → i < get_or s 1 0 → get_or s 1 0 < k
      → Parts g w A i k (get_or s 0 0) (get_or s 1 0) (left_words m s) (right_words m s) → Spells g w A i k s
  spells_node s m l e a b p = record {
    tree = node (get_or s 0 0) (get_or s 1 0) p.first.tree p.second.tree;
    derives = (p.root, p.first.derives, p.second.derives);
    spelt = script_node s m p.first.tree p.second.tree l e a b p.first.spelt p.second.spelt;
  }

  parts_of : (t : Tree) (s : List ℕ) → Derives g w A i k t → script t ≡ s → (k ≡ i + 1 → ⊥)
      → Parts g w A i k (get_or s 0 0) (get_or s 1 0) (left_words (4 * (get_or s 1 0 - i)) s) (right_words (4 * (get_or s 1 0 - i)) s)
  unfolding script
  parts_of (leaf r p) s d e h = absurd (h d.end)
  parts_of (node r j t u) s d e h =
      subst (λ (x : List ℕ). Parts g w A i k (get_or x 0 0) (get_or x 1 0) (left_words (4 * (get_or x 1 0 - i)) x) (right_words (4 * (get_or x 1 0 - i)) x)) e
      (let a = script_length g w _ i j t d.1 in
      let b = script_length g w _ j k u d.2 in
      let q = some_events g w _ i j t d.1 in
      let m = 4 * (j - i) in
      let eq : m ≡ suc (suc (length (script t))) = omega arith in
      record {
        root = d.0;
        first = record { tree = t; derives = d.1; spelt = sym (take_at (script t) (script u) (m - 2) (omega arith)) };
        second = record { tree = u; derives = d.2; spelt = sym (take_all (length (script (node r j t u)) - m) (drop m (script (node r j t u))) (simp (length-drop) (omega arith)) ∙ (rw eq (drop_at (script t) (script u) (length (script t)) refl))) };
      })

  pub spelt_node : (s : List ℕ) (m : ℕ) → m ≡ 4 * (get_or s 1 0 - i) → (k ≡ i + 1 → ⊥) → Spells g w A i k s
      → Parts g w A i k (get_or s 0 0) (get_or s 1 0) (left_words m s) (right_words m s)
  spelt_node s m e h p = rw e (parts_of p.tree s p.derives p.spelt h)

-- the same, with the first two words in hand
module _ (g : Grammar) (w : List ℕ) (A i k : ℕ) (s : List ℕ) (r j : ℕ) (er : r ≡ get_or s 0 0) (ej : j ≡ get_or s 1 0) where
  pub leaf_says : (b : Bool) → length s ≡ script_word_count (k - i) → k ≡ i + 1 → Decides b (LeafOk g w A i (i + 1) r j) → Decides b (Spells g w A i k s)
  leaf_says b l e = decides_as b
      (λ h. spells_leaf g w A i k s l e (rw (e, ← er, ← ej) h))
      (λ p. rw (← e, er, ej) (spelt_leaf g w A i k s e p))

  pub node_spelt : (k ≡ i + 1 → ⊥) → Spells g w A i k s → Parts g w A i k r j (left_words (4 * (j - i)) s) (right_words (4 * (j - i)) s)
  node_spelt h p = rw (er, ej) (spelt_node g w A i k s _ refl h p)

  pub node_spells : length s ≡ script_word_count (k - i) → Parts g w A i k r j (left_words (4 * (j - i)) s) (right_words (4 * (j - i)) s) → Spells g w A i k s
  node_spells l p = let q = p.root in spells_node g w A i k s (4 * (j - i)) l (rw ej) (rw ej at q.after) (rw ej at q.before) (rw (← er, ← ej) p)

  pub node_script : (t u : Tree) → length s ≡ script_word_count (k - i) → i < j → j < k
      → script t ≡ left_words (4 * (j - i)) s → script u ≡ right_words (4 * (j - i)) s → script (node r j t u) ≡ s
  node_script t u l a b p q =
      rw (er, ej) (script_node g w A i k s (4 * (get_or s 1 0 - i)) t u l refl (rw ej at a) (rw ej at b) (rw ej at p) (rw ej at q))

-- the two parts are shorter stretches, and have the words of theirs
module _ (i j k : ℕ) (a : i < j) (b : j < k) where
  pub less_left : (t : ℕ) → k - i ≡ t → j - i < t
  less_left t e = omega arith

  pub less_right : (t : ℕ) → k - i ≡ t → k - j < t
  less_right t e = omega arith

  pub left_length : (s : List ℕ) → length s ≡ script_word_count (k - i) → length (left_words (4 * (j - i)) s) ≡ script_word_count (j - i)
  left_length s l = length-take-le (4 * (j - i) - 2) (drop 2 s) (simp length-drop (omega arith)) ∙ omega arith

  pub right_length : (s : List ℕ) → length s ≡ script_word_count (k - i) → length (right_words (4 * (j - i)) s) ≡ script_word_count (k - j)
  right_length s l = length-take-le (length s - 4 * (j - i)) (drop (4 * (j - i)) s) (simp length-drop (le_refl _)) ∙ omega arith
