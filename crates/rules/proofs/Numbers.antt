-- What a rule's numbers tell: its kind, since an event rule has two and a pair rule three, and its highest symbol.
-- Assumes nothing.
use Prim.Native.Nat.{ℕ, ◌≤◌, ◌<◌, max}
use native.Mathlib.Decide.{dec_lt}
use native.Mathlib.Omega.{arith}
use mathlib.Core.Path.{◌≡◌}
use mathlib.Core.List.{[], ◌∷◌}
use lib.Dec.{ltb}
use Rattle.std.proofs.lemmas.Bool.Decides.{nat_tests}
use Rattle.bits.specs.Truth.{Decides}
use Rattle.derivation.specs.Grammar.{Grammar, event_rule_count, rule_total}
use Rattle.derivation.specs.Sound.{as_numbers, highest, SymbolsFit}
use Rattle.derivation.proofs.Sound.{leaf_numbers, pair_numbers, leaf_highest, pair_highest}

decides_lt : (a b : ℕ) → Decides (ltb a b) (a < b)
decides_lt a b = grind (arith, nat_tests)

module _ (g : Grammar) (r : ℕ) (rule : r < rule_total g) where
  pub is_leaf : {s e : ℕ} → s ∷ e ∷ [] ≡ as_numbers g r → r < event_rule_count g
  is_leaf p = elim (dec_lt r (event_rule_count g)) [ yes l ↦ l | no l ↦ let q = pair_numbers g r (omega arith) rule in absurd (cc) ]

  pub is_pair : {s a b : ℕ} → s ∷ a ∷ b ∷ [] ≡ as_numbers g r → event_rule_count g ≤ r
  is_pair p = elim (dec_lt r (event_rule_count g)) [ yes l ↦ let q = leaf_numbers g r l in absurd (cc) | no l ↦ omega arith ]

  pub leaf_fits : {n s e : ℕ} → n ≡ g.symbols → s ∷ e ∷ [] ≡ as_numbers g r → Decides (ltb s n) (SymbolsFit g r)
  leaf_fits {n} {s} e p =
      let l = is_leaf p in
      let q = leaf_numbers g r l in
      let h = leaf_highest g r l in
      let top : highest g r ≡ s = cc in
      rw (top, ← e) (decides_lt s n)

  pub pair_fits : {n s a b : ℕ} → n ≡ g.symbols → s ∷ a ∷ b ∷ [] ≡ as_numbers g r → Decides (ltb (max s (max a b)) n) (SymbolsFit g r)
  pair_fits {n} {s} {a} {b} e p =
      let l = is_pair p in
      let q = pair_numbers g r l rule in
      let h = pair_highest g r l rule in
      let top : highest g r ≡ max s (max a b) = cc in
      rw (top, ← e) (decides_lt (max s (max a b)) n)
