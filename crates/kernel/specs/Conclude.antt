-- Promised: the two rules over words as they stand: which pair rules match over two of them and what they conclude, and what an event makes.
-- Assumes nothing.
use Rattle.std.specs.Prelude.{ℕ, ◌*◌}
use Rattle.bits.specs.Truth.{same}
use Rattle.bits.specs.Sum.{sum}
use Rattle.bits.specs.Bit.{bit}
use Rattle.derivation.specs.Grammar.{Grammar, event_rule_count, pair_rule_count, event_rule, pair_rule}

-- 1 where both premises of pair rule b stand in the words u and v, else 0
unfoldable pub hit : Grammar → (u v b : ℕ) → ℕ
hit g u v b = bit u (pair_rule g b).left * bit v (pair_rule g b).right

-- how many of those that match over u and v conclude A
unfoldable pub conclusions : Grammar → (u v A : ℕ) → ℕ
conclusions g u v A = sum (pair_rule_count g) (λ b. hit g u v b * same (pair_rule g b).symbol A)

-- how many event rules turn A into the event e
unfoldable pub leaf_conclusions : Grammar → (e A : ℕ) → ℕ
leaf_conclusions g e A = sum (event_rule_count g) (λ r. same (event_rule g r).event e * same (event_rule g r).symbol A)
