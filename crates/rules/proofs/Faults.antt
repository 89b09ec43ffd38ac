-- What a search for the first rule at fault has found; and where there is a first fault, not every number passes.
-- Assumes nothing.
use Prim.Native.Nat.{ℕ, ◌≤◌, ◌<◌}
use native.Mathlib.Omega.{arith}
use mathlib.Core.Path.{◌≡◌}
use Rattle.std.specs.Prelude.{Option, None, Some}
use Rattle.std.specs.Option.{MatchOption}
use Rattle.bits.specs.Truth.{Every}
use Rattle.rules.specs.Fault.{FirstFault}
use Rattle.rules.specs.Tests.{SearchIs}

pub not_every : {m : ℕ} {P : ℕ → Type 0} {r : ℕ} → FirstFault m P r → Every m P → ⊥
not_every {r = r} f all = f.fault (all r f.within)

-- what `find` says of it
pub searched : {m n : ℕ} (P : ℕ → Type 0) (found : Option ℕ) → n ≡ m
    → MatchOption found ((k : ℕ) → 0 ≤ k → k < n → P k) (λ r. (0 ≤ r) × (r < n) × (P r → ⊥) × ((k : ℕ) → 0 ≤ k → k < r → P k)) → SearchIs m P found
searched P None e all = λ k l. all k (omega arith) (omega arith)
searched P (Some r) e f = record { within = omega arith; before = λ k l. f.3 k (omega arith) l; fault = f.2 }
