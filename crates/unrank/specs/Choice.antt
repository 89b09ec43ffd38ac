-- Inside: from a number to a derivation: which rule and split it is by, and the numbers of its parts. The shares of rules and splits are what
-- they add to the words of a table (`table: Fill`).
-- Assumes nothing.
use Rattle.std.specs.Prelude.{◌≡◌, Result, MatchResult, List, ℕ, ◌+◌, ◌≤◌, ◌<◌, get_or}
use Rattle.bits.specs.Sum.{sum, between}
use Rattle.derivation.specs.Grammar.{Grammar, event_rule_count, pair_rule_count, rule_total, event_rule, pair_rule, rule_symbol}
use Rattle.derivation.specs.Tree.{Tree, node}
use Rattle.derivation.specs.Derivations.{derivations, count}
use Rattle.derivation.specs.Numbering.{none}
use Rattle.table.specs.Table.{limit}
use Rattle.table.specs.Fill.{leaf_adds, split_adds, pair_adds}
use Rattle.unrank.specs.declared.choose.Share.{Share}
use Rattle.unrank.specs.declared.choose.Choice.{Choice}
use Rattle.unrank.specs.declared.choose.Plan.{Plan}

-- the rules from `from` up to `to` are of one kind, so that their symbols rise
pub record OneKind (g : Grammar) (from to : ℕ) : Type 0 where
  pub some : from ≤ to
  pub known : to ≤ rule_total g
  pub rising : (r q : ℕ) → from ≤ r → r < q → q < to → rule_symbol g r ≤ rule_symbol g q

-- those of them before rule r have lesser symbols than A
pub record Passed (g : Grammar) (A from to r : ℕ) : Type 0 where
  pub low : from ≤ r
  pub high : r ≤ to
  pub before : (c : ℕ) → from ≤ c → c < r → rule_symbol g c < A

-- place n of what the splits add, in order, is place m of the split j's share
pub record InSplit (t : List ℕ) (N B C i k n j m : ℕ) : Type 0 where
  pub after : i < j
  pub before : j < k
  pub inside : m < split_adds t N B C i k j
  pub place : n ≡ between i j (split_adds t N B C i k) + m

-- in which split's share place n falls, and where in it; or how far past them all it is
abbrev pub Picked : List ℕ → (N B C i k n : ℕ) → Result Share ℕ → Type 0
Picked t N B C i k n p =
    MatchResult p (λ s. InSplit t N B C i k n s.split s.rest) (λ m. n ≡ between i k (split_adds t N B C i k) + m)

-- place n of what the pair rules add to the word of A is in this rule's share, at place o of it, and there in this split's
pub record Chosen (g : Grammar) (t : List ℕ) (A i k n : ℕ) (c : Choice) : Type 0 where
  pub known : c.pair < pair_rule_count g
  pub symbol : (pair_rule g c.pair).symbol ≡ A
  pub o : ℕ
  pub place : n ≡ sum c.pair (pair_adds g t i k A) + o
  pub split : InSplit t g.symbols (pair_rule g c.pair).left (pair_rule g c.pair).right i k o c.share.split c.share.rest

-- place n of what the event rules add to the word of A over the event x is event rule r
pub record ChosenLeaf (g : Grammar) (x A n r : ℕ) : Type 0 where
  pub known : r < event_rule_count g
  pub symbol : (event_rule g r).symbol ≡ A
  pub event : (event_rule g r).event ≡ x
  pub place : n ≡ sum r (leaf_adds g x A)

-- a plan of a derivation over i to k whose parts there are
pub record PlanOk (g : Grammar) (w : List ℕ) (i k : ℕ) (p : Plan) : Type 0 where
  pub after : i < p.split
  pub before : p.split < k
  pub word : p.rule < 65536
  pub left_some : p.left.number < count g w p.left.symbol i p.split
  pub left_small : p.left.number < limit
  pub right_some : p.right.number < count g w p.right.symbol p.split k
  pub right_small : p.right.number < limit

-- the derivation that it is of
abbrev pub plan_tree : Grammar → List ℕ → (i k : ℕ) → Plan → Tree
plan_tree g w i k p =
    node p.rule p.split
    (get_or (derivations g w p.left.symbol i p.split) p.left.number none)
    (get_or (derivations g w p.right.symbol p.split k) p.right.number none)

-- it is of derivation number n of A
pub record Planned (g : Grammar) (w : List ℕ) (A i k n : ℕ) (p : Plan) : Type 0 where
  pub parts : PlanOk g w i k p
  pub root : get_or (derivations g w A i k) n none ≡ plan_tree g w i k p
