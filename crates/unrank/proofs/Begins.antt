-- The rules of each kind rise; and rules of other symbols than that of a word add nothing to it.
-- Assumes nothing.
use Prim.Native.Nat.{ℕ, ◌+◌, ◌-◌}
use native.Mathlib.Omega.{arith}
use mathlib.Core.Path.{◌≡◌}
use mathlib.Core.List.{List}
use Rattle.bits.specs.Sum.{sum}
use Rattle.bits.proofs.Sums.{sum_zero}
use Rattle.derivation.specs.Grammar.{Grammar, event_rule_count, rule_total}
use Rattle.derivation.specs.Sound.{Sound}
use Rattle.derivation.proofs.Sound.{leaf_symbol, leaf_symbols_rise, pair_symbols_rise, counted_symbol}
use Rattle.table.specs.Fill.{leaf_adds, pair_adds}
use Rattle.table.proofs.Cells.{leaf_other, pair_other}
use Rattle.unrank.specs.Choice.{OneKind, Passed}

-- ---- the two kinds
module _ (g : Grammar) (o : Sound g) where
  pub event_rules : OneKind g 0 (event_rule_count g)
  event_rules = record { some = omega arith; known = omega arith; rising = λ r q z l h. leaf_symbols_rise g o r q l h }

  pub pair_rules : OneKind g (event_rule_count g) (rule_total g)
  pair_rules = record { some = omega arith; known = omega arith; rising = pair_symbols_rise g o }

-- ---- what is passed adds nothing to a word of A
module _ (g : Grammar) (A : ℕ) where
  pub leaves_nothing : (x r : ℕ) → Passed g A 0 (event_rule_count g) r → sum r (leaf_adds g x A) ≡ 0
  leaves_nothing x r p = sum_zero r (leaf_adds g x A)
      (λ c l. leaf_other g x c A (λ e. omega (arith, p.before c (omega arith) l, leaf_symbol g c (omega (arith, p.high)))))

  pub pairs_nothing : Sound g → (t : List ℕ) (i k r : ℕ) → Passed g A (event_rule_count g) (rule_total g) r → sum (r - event_rule_count g) (pair_adds g t i k A) ≡ 0
  pairs_nothing o t i k r p = sum_zero (r - event_rule_count g) (pair_adds g t i k A)
      (λ c l. pair_other g t i k c A (λ e. omega (arith, p.before (event_rule_count g + c) (omega arith) (omega arith), counted_symbol g o c (omega (arith, p.high)))))

-- where the loops that choose begin
pub choose_from : (f : ℕ → ℕ) (n first : ℕ) → sum first f ≡ 0 → n ≡ sum first f + n
choose_from f n first e = omega arith
