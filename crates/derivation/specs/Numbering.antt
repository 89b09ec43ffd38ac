-- Promised: what every list of readings or of derivations must be, and every answer to "is it derivable": said of demand 2's trees alone, with no
-- list and no chart made. `Derivations` has such lists, and `proofs/Numbering` shows that there is one only of each.
-- Assumes nothing.
use Rattle.std.specs.Prelude.{◌≡◌, List, ℕ, ◌<◌, length, get_or}
use Rattle.derivation.specs.Grammar.{Grammar}
use Rattle.derivation.specs.Order.{Before}
use Rattle.derivation.specs.Tree.{Tree, leaf, Derives, Derivable, script}
use Rattle.derivation.specs.Reading.{Reading, quiet, Reads, spelling}

-- l numbers what Is holds of, in the order of its scripts: number q is what stands at place q. Past the end stands `past`
pub record Numbers {X : Type 0} (Is : X → Type 0) (scriptOf : X → List ℕ) (past : X) (l : List X) : Type 0 where
  -- each number below their count gives one
  pub gives : (q : ℕ) → q < length l → Is (get_or l q past)
  -- each has a number
  pub numbered : (x : X) → Is x → (q : ℕ) × (q < length l) × (get_or l q past ≡ x)
  -- a smaller number means an earlier script; so none has two
  pub earlier : (p q : ℕ) → p < q → q < length l → Before (scriptOf (get_or l p past)) (scriptOf (get_or l q past))

-- q is the place in l of what has the script s
pub record Place {X : Type 0} (scriptOf : X → List ℕ) (past : X) (l : List X) (s : List ℕ) (q : ℕ) : Type 0 where
  pub below : q < length l
  pub spelt : scriptOf (get_or l q past) ≡ s

-- l numbers the readings of w: demand 3
abbrev pub NumbersReadings : Grammar → List ℕ → List Reading → Type 0
NumbersReadings g w l = Numbers (Reads g w) spelling quiet l

-- what stands past the end of a list of trees
abbrev pub none : Tree
none = leaf 0 0

-- l numbers the derivations of [A, i, k]
abbrev pub NumbersDerivations : Grammar → List ℕ → (A i k : ℕ) → List Tree → Type 0
NumbersDerivations g w A i k l = Numbers (Derives g w A i k) script none l

-- x is 1 exactly when [A, i, k] is derivable, and else 0
pub record Tells (g : Grammar) (w : List ℕ) (A i k x : ℕ) : Type 0 where
  pub yes : Derivable g w A i k → x ≡ 1
  pub no : (Derivable g w A i k → ⊥) → x ≡ 0

-- s tells it of every symbol and stretch
pub record Telling (g : Grammar) (w : List ℕ) (s : (i k A : ℕ) → ℕ) : Type 0 where
  pub at : (A i k : ℕ) → Tells g w A i k (s i k A)
