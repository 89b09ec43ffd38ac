-- What holds of each of a list: of two lists, one after the other; of what it follows for; and of what is made of each.
-- Assumes nothing.
use Prim.Native.Nat.{ℕ, zero, suc, ◌<◌}
use native.Mathlib.Omega.{arith}
use mathlib.Core.List.{List, [], ◌∷◌, ◌++◌, map}
use lib.ListN.{length, get_or}
use Rattle.bits.specs.Truth.{All}

module _ {ℓ} {X : Type ℓ} (P : X → Type 0) where
  unfoldable pub all_both : (xs ys : List X) → All P xs → All P ys → All P (xs ++ ys)
  all_both [] ys p q = q
  all_both (x ∷ xs) ys p q = (p.0, all_both xs ys p.1 q)

  pub all_front : (xs ys : List X) → All P (xs ++ ys) → All P xs
  all_front [] ys p = tt
  all_front (x ∷ xs) ys p = (p.0, all_front xs ys p.1)

  pub all_back : (xs ys : List X) → All P (xs ++ ys) → All P ys
  all_back [] ys p = p
  all_back (x ∷ xs) ys p = all_back xs ys p.1

  pub all_as : (Q : X → Type 0) → ((x : X) → P x → Q x) → (xs : List X) → All P xs → All Q xs
  all_as Q f [] p = tt
  all_as Q f (x ∷ xs) p = (f x p.0, all_as Q f xs p.1)

  module _ {Y : Type 0} (f : Y → X) (d : Y) where
    pub all_each : (ys : List Y) → ((r : ℕ) → r < length ys → P (f (get_or ys r d))) → All P (map f ys)
    all_each [] p = tt
    all_each (y ∷ ys) p = (p 0 (omega arith), all_each ys (λ r l. p (suc r) (omega arith)))

    pub all_at : (ys : List Y) → All P (map f ys) → (r : ℕ) → r < length ys → P (f (get_or ys r d))
    all_at [] p r l = absurd (omega arith)
    all_at (y ∷ ys) p zero l = p.0
    all_at (y ∷ ys) p (suc r) l = all_at ys p.1 r (omega arith)
