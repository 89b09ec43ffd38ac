-- Scripts: how long one is, and that it is the script of one derivation only.
-- Assumes nothing.
use mathlib.Core.Path.{◌≡◌, sym, ap, ◌∙◌}
use mathlib.Core.List.{List, [], ◌++◌, append_assoc, append-nil, head-eq_of_cons-eq, tail-eq_of_cons-eq}
use Prim.Native.Nat.{ℕ, ◌+◌, ◌-◌, ◌*◌}
use native.Mathlib.Omega.{arith}
use lib.ListN.{length, length-append}
use Rattle.derivation.specs.Grammar.{Grammar, event_rule_count, pair_rule}
use Rattle.derivation.specs.Tree.{Tree, leaf, node, Derives, script, script_word_count, Spells}

module _ (g : Grammar) (w : List ℕ) where
  -- how long a script is
  script_words_is : (A i k : ℕ) (t : Tree) → Derives g w A i k t → length (script t) + 2 + 4 * i ≡ 4 * k
  unfolding script
  script_words_is A i k (leaf r p) d = omega (arith, d.end)
  script_words_is A i k (node r j t u) d =
      omega (
        arith,
        length-append (script t) (script u),
        script_words_is (pair_rule g (r - event_rule_count g)).left i j t d.1,
        script_words_is (pair_rule g (r - event_rule_count g)).right j k u d.2,
      )

  pub script_length : (A i k : ℕ) (t : Tree) → Derives g w A i k t → length (script t) ≡ script_word_count (k - i)
  script_length A i k t d = omega (arith, script_words_is A i k t d)

  pub spells_length : (A i k : ℕ) (s : List ℕ) → Spells g w A i k s → length s ≡ script_word_count (k - i)
  spells_length A i k s p = sym (ap length p.spelt) ∙ script_length A i k p.tree p.derives

  -- what follows a script cannot change where it ends or what it says
  script_cut : (A i k B x y : ℕ) (t u : Tree) (p q : List ℕ) → Derives g w A i k t → Derives g w B x y u
      → script t ++ p ≡ script u ++ q → (t ≡ u) × (p ≡ q)
  unfolding script
  script_cut A i k B x y (leaf r a) (leaf s b) p q d e h = (cc, cc)
  script_cut A i k B x y (leaf r a) (node s j t u) p q d e h =
      let z : r ≡ s = cc in absurd (omega (arith, d.rule, e.0.low))
  script_cut A i k B x y (node r j t u) (leaf s b) p q d e h =
      let z : r ≡ s = cc in absurd (omega (arith, d.0.low, e.rule))
  script_cut A i k B x y (node r j t u) (node s c v z) p q d e h =
      let f = pair_rule g (r - event_rule_count g) in
      let f' = pair_rule g (s - event_rule_count g) in
      let h' : script t ++ (script u ++ p) ≡ script v ++ (script z ++ q) =
      sym (append_assoc (script t) (script u) p) ∙ tail-eq_of_cons-eq (tail-eq_of_cons-eq h) ∙ append_assoc (script v) (script z) q in
      let a = script_cut f.left i j f'.left x c t v (script u ++ p) (script z ++ q) d.1 e.1 h' in
      let b = script_cut f.right j k f'.right c y u z p q d.2 e.2 a.1 in
      let r≡s : r ≡ s = head-eq_of_cons-eq h in
      let j≡c : j ≡ c = head-eq_of_cons-eq (tail-eq_of_cons-eq h) in
      (cc, b.1)

  -- a script has one derivation, whatever symbol and stretch it is of
  pub script_inj : (A i k B x y : ℕ) (t u : Tree) → Derives g w A i k t → Derives g w B x y u → script t ≡ script u → t ≡ u
  script_inj A i k B x y t u d e h =
      (script_cut A i k B x y t u [] [] d e (append-nil (script t) ∙ h ∙ sym (append-nil (script u)))).0
