-- Promised: what a grammar derives by its rules: trees of rule uses, which of them are derivations, and their scripts.
-- A record of events is a list w; the stretch (i, k) of it is events i + 1 to k.
-- Assumes nothing.
use Rattle.std.specs.Prelude.{◌≡◌, List, [], ◌∷◌, ◌++◌, ℕ, ◌+◌, ◌-◌, ◌*◌, ◌≤◌, ◌<◌, length, get_or}
use Rattle.derivation.specs.Grammar.{Grammar, event_rule_count, rule_total, event_rule, pair_rule}

-- a leaf has its event rule's number and its place, a node its pair rule's number and its split
pub data Tree : Type 0 where
  leaf : (rule place : ℕ) → Tree
  node : (rule split : ℕ) → Tree → Tree → Tree

-- event rule r turns symbol A into event i + 1, whose place is p, and k is i + 1
pub record LeafOk (g : Grammar) (w : List ℕ) (A i k r p : ℕ) : Type 0 where
  pub rule : r < event_rule_count g
  pub symbol : (event_rule g r).symbol ≡ A
  pub event : (event_rule g r).event ≡ get_or w i 0
  pub inside : i < length w
  pub end : k ≡ i + 1
  pub place : p ≡ i + 1

-- the pair rule with number r turns symbol A into two symbols, and j is a split of (i, k)
pub record NodeOk (g : Grammar) (A i k r j : ℕ) : Type 0 where
  pub low : event_rule_count g ≤ r
  pub high : r < rule_total g
  pub symbol : (pair_rule g (r - event_rule_count g)).symbol ≡ A
  pub after : i < j
  pub before : j < k

-- the tree is a derivation of symbol A over (i, k)
abbrev pub Derives : Grammar → List ℕ → ℕ → ℕ → ℕ → Tree → Type 0
Derives g w A i k (leaf r p) = LeafOk g w A i k r p
Derives g w A i k (node r j t u) =
    NodeOk g A i k r j
    × Derives g w (pair_rule g (r - event_rule_count g)).left i j t
    × Derives g w (pair_rule g (r - event_rule_count g)).right j k u

-- [A, i, k] is derivable
abbrev pub Derivable : Grammar → List ℕ → ℕ → ℕ → ℕ → Type 0
Derivable g w A i k = (t : Tree) × Derives g w A i k t

-- two words for each node, from the root; a node before its left part, and the left part before the right
unfoldable pub script : Tree → List ℕ
script (leaf r p) = r ∷ p ∷ []
script (node r j t u) = r ∷ j ∷ script t ++ script u

-- how many words the script of a derivation over n events has: 2 (2 n - 1), and 0 for n = 0, where 2 n - 1 is 0
abbrev pub script_word_count : ℕ → ℕ
script_word_count n = 2 * (2 * n - 1)

-- s is the script of a derivation of A over (i, k)
pub record Spells (g : Grammar) (w : List ℕ) (A i k : ℕ) (s : List ℕ) : Type 0 where
  pub tree : Tree
  pub derives : Derives g w A i k tree
  pub spelt : script tree ≡ s
