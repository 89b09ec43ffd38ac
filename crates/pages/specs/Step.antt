-- Inside: from one derivation to the next: in the words of its script, and in its root's rule and split. "Next" is by number (`Derivations`).
-- Assumes nothing.
use Rattle.std.specs.Prelude.{◌≡◌, Bool, true, false, Option, MatchOption, List, ◌∷◌, ◌++◌, ℕ, ◌+◌, ◌*◌, ◌≤◌, ◌<◌, get_or}
use Rattle.derivation.specs.Grammar.{Grammar, event_rule_count, pair_rule}
use Rattle.derivation.specs.Tree.{node, script}
use Rattle.derivation.specs.Derivations.{derivations, count}
use Rattle.derivation.specs.Numbering.{none}
use Rattle.lookup.specs.declared.Pair.{Pair}
use Rattle.table.specs.Fill.{split_adds}
use Rattle.unrank.specs.declared.choose.Plan.{Plan}
use Rattle.unrank.specs.Choice.{Planned}

-- ---- the words
-- they begin with the script of derivation number q of A over i to k, and rest follows
pub record Begins (g : Grammar) (w : List ℕ) (A i k q : ℕ) (rest room : List ℕ) : Type 0 where
  pub below : q < count g w A i k
  pub text : room ≡ script (get_or (derivations g w A i k) q none) ++ rest

-- they begin with the script of some derivation
pub record Begun (g : Grammar) (w : List ℕ) (A i k : ℕ) (room : List ℕ) : Type 0 where
  pub q : ℕ
  pub rest : List ℕ
  pub is : Begins g w A i k q rest room

-- what a step from number q leaves: the next derivation; or, where q is the last, the words as they were
abbrev pub StepsTo : Grammar → List ℕ → (A i k q : ℕ) → (rest room : List ℕ) → Bool → List ℕ → Type 0
StepsTo g w A i k q rest room true room' = Begins g w A i k (q + 1) rest room'
StepsTo g w A i k q rest room false room' = (q + 1 ≡ count g w A i k) × (room' ≡ room)

pub record Stepped (g : Grammar) (w : List ℕ) (A i k : ℕ) (room : List ℕ) (more : Bool) (room' : List ℕ) : Type 0 where
  pub from : (q : ℕ) (rest : List ℕ) → Begins g w A i k q rest room → StepsTo g w A i k q rest room more room'

-- ---- the words of a node's two parts, behind its own
-- its own are r and s, the left part is number x and the right part number y, and rest follows
pub record Parted (g : Grammar) (w : List ℕ) (p : Pair) (i j k r s x y : ℕ) (rest room : List ℕ) : Type 0 where
  pub left : x < count g w p.left i j
  pub right : y < count g w p.right j k
  pub text : room ≡ r ∷ s ∷ (script (get_or (derivations g w p.left i j) x none) ++ (script (get_or (derivations g w p.right j k) y none) ++ rest))

pub record SomeParted (g : Grammar) (w : List ℕ) (p : Pair) (i j k : ℕ) (room : List ℕ) : Type 0 where
  pub r : ℕ
  pub s : ℕ
  pub x : ℕ
  pub y : ℕ
  pub rest : List ℕ
  pub is : Parted g w p i j k r s x y rest room

-- the two parts that follow: in the order of left parts, and for each of right parts, theirs is the next place
pub record PartsNext (g : Grammar) (w : List ℕ) (p : Pair) (i j k r s x y : ℕ) (rest room' : List ℕ) : Type 0 where
  pub x' : ℕ
  pub y' : ℕ
  pub place : x' * count g w p.right j k + y' ≡ x * count g w p.right j k + y + 1
  pub is : Parted g w p i j k r s x' y' rest room'

-- neither part has a next one
pub record PartsLast (g : Grammar) (w : List ℕ) (p : Pair) (i j k x y : ℕ) (room room' : List ℕ) : Type 0 where
  pub left : x + 1 ≡ count g w p.left i j
  pub right : y + 1 ≡ count g w p.right j k
  pub kept : room' ≡ room

abbrev pub PartsTo : Grammar → List ℕ → Pair → (i j k r s x y : ℕ) → (rest room : List ℕ) → Bool → List ℕ → Type 0
PartsTo g w p i j k r s x y rest room true room' = PartsNext g w p i j k r s x y rest room'
PartsTo g w p i j k r s x y rest room false room' = PartsLast g w p i j k x y room room'

pub record PartsStepped (g : Grammar) (w : List ℕ) (p : Pair) (i j k : ℕ) (room : List ℕ) (more : Bool) (room' : List ℕ) : Type 0 where
  pub from : (r s x y : ℕ) (rest : List ℕ) → Parted g w p i j k r s x y rest room → PartsTo g w p i j k r s x y rest room more room'

-- ---- the root
-- by the words of the table t the symbols B and C add nothing with the splits of i to k from `from` up to `to`
pub record Skipped (t : List ℕ) (N B C i k from to : ℕ) : Type 0 where
  pub nothing : (j : ℕ) → from ≤ j → j < to → split_adds t N B C i k j ≡ 0

-- the first split with which they add something
pub record Found (t : List ℕ) (N B C i k from j : ℕ) : Type 0 where
  pub after : from ≤ j
  pub before : j < k
  pub some : 0 < split_adds t N B C i k j
  pub skipped : Skipped t N B C i k from j

-- it is this one; or there is none
abbrev pub SplitIs : List ℕ → (N B C i k from : ℕ) → Option ℕ → Type 0
SplitIs t N B C i k from s = MatchOption s (Skipped t N B C i k from k) (λ j. Found t N B C i k from j)

-- derivation number q of A over i to k is the last by pair rule b and the split j
pub record LastBy (g : Grammar) (w : List ℕ) (A i k b j q : ℕ) : Type 0 where
  pub below : q < count g w A i k
  pub x : ℕ
  pub y : ℕ
  pub left : x + 1 ≡ count g w (pair_rule g b).left i j
  pub right : y + 1 ≡ count g w (pair_rule g b).right j k
  pub tree : get_or (derivations g w A i k) q none
      ≡ node (event_rule_count g + b) j (get_or (derivations g w (pair_rule g b).left i j) x none) (get_or (derivations g w (pair_rule g b).right j k) y none)

-- the plan of the one behind it; or there is none
abbrev pub Followed : Grammar → List ℕ → (A i k q : ℕ) → Option Plan → Type 0
Followed g w A i k q n =
    MatchOption n (q + 1 ≡ count g w A i k) (λ p. (q + 1 < count g w A i k) × Planned g w A i k (q + 1) p)

-- the plan with this root and both parts number 0
abbrev pub first_by : (rule split left right : ℕ) → Plan
first_by r j B C = record { rule = r; split = j; left = record { symbol = B; number = 0 }; right = record { symbol = C; number = 0 } }

pub record NextIs (g : Grammar) (w : List ℕ) (A i k b j : ℕ) (n : Option Plan) : Type 0 where
  pub behind : (q : ℕ) → LastBy g w A i k b j q → Followed g w A i k q n
