-- Promised: truth as an answer and as a number, and what holds of every number below a bound and of each of a list.
-- Assumes nothing.
use Rattle.std.specs.Prelude.{ℕ, zero, suc, ◌<◌, Bool, true, false, List, [], ◌∷◌}

-- the answer yes says that P holds, and the answer no that it does not
abbrev pub Decides : Bool → Type 0 → Type 0
Decides true P = P
Decides false P = P → ⊥

-- P holds of every number below m
abbrev pub Every : ℕ → (ℕ → Type 0) → Type 0
Every m P = (r : ℕ) → r < m → P r

-- P holds of each of a list
abbrev pub All {ℓ} : {X : Type ℓ} → (X → Type 0) → List X → Type 0
All P [] = Unit {0}
All P (x ∷ xs) = P x × All P xs

-- 1 where the two are equal, else 0
unfoldable pub same : ℕ → ℕ → ℕ
same zero zero = 1
same zero (suc b) = 0
same (suc a) zero = 0
same (suc a) (suc b) = same a b
