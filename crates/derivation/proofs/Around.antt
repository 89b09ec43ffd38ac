-- A derivation does not depend on what stands around its stretch: more events behind it change nothing, and events before it move its places and splits.
-- Assumes nothing.
use mathlib.Core.Path.{sym, ◌∙◌}
use mathlib.Core.List.{List, ◌++◌}
use Prim.Native.Nat.{ℕ, ◌+◌, ◌-◌}
use native.Mathlib.Omega.{arith}
use lib.ListN.{length, length-append, get_or-append}
use lib.Seq.{get_or-append-add}
use Rattle.derivation.specs.Grammar.{Grammar, event_rule_count, pair_rule}
use Rattle.derivation.specs.Tree.{Tree, leaf, node, Derives}

abbrev pub moved : ℕ → Tree → Tree
moved n (leaf r p) = leaf r (n + p)
moved n (node r j t u) = node r (n + j) (moved n t) (moved n u)

module _ (g : Grammar) (v w : List ℕ) where
  pub more_behind : (A i k : ℕ) (t : Tree) → Derives g v A i k t → Derives g (v ++ w) A i k t
  more_behind A i k (leaf r p) d = record {
    rule = d.rule;
    symbol = d.symbol;
    event = d.event ∙ sym (get_or-append v w 0 i d.inside);
    inside = omega (arith, d.inside, length-append v w);
    end = d.end;
    place = d.place;
  }
  more_behind A i k (node r j t u) d =
      let q = pair_rule g (r - event_rule_count g) in
      (d.0, more_behind q.left i j t d.1, more_behind q.right j k u d.2)

  pub more_before : (A i k : ℕ) (t : Tree) → Derives g w A i k t → Derives g (v ++ w) A (length v + i) (length v + k) (moved (length v) t)
  more_before A i k (leaf r p) d = record {
    rule = d.rule;
    symbol = d.symbol;
    event = d.event ∙ sym (get_or-append-add v w i 0);
    inside = omega (arith, d.inside, length-append v w);
    end = omega (arith, d.end);
    place = omega (arith, d.place);
  }
  more_before A i k (node r j t u) d =
      let q = pair_rule g (r - event_rule_count g) in
      let o = d.0 in (
        record { low = o.low; high = o.high; symbol = o.symbol; after = omega (arith, o.after); before = omega (arith, o.before) },
        more_before q.left i j t d.1,
        more_before q.right j k u d.2,
      )
