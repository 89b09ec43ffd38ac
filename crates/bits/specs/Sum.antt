-- Promised: sums: over the numbers below a bound, and over those between two.
-- Assumes nothing.
use Rattle.std.specs.Prelude.{ℕ, zero, suc, ◌+◌, ◌-◌}

-- f 0 + f 1 + .. + f (n - 1)
unfoldable pub sum : ℕ → (ℕ → ℕ) → ℕ
sum zero f = 0
sum (suc n) f = sum n f + f n

-- f j for each j with i < j < k, added up
unfoldable pub between : ℕ → ℕ → (ℕ → ℕ) → ℕ
between i k f = sum (k - (i + 1)) (λ x. f (i + 1 + x))
