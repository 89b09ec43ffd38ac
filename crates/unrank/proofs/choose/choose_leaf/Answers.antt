-- The rules that the search passes add nothing; a rule that fits takes one off the rest, and one that does not leaves it.
use Rattle.std.proofs.Common.{arith}
use Rattle.image.proofs.Outcomes.{taken}
use Rattle.unrank.proofs.Plans.{leaf_past, leaf_skip}
use Rattle.unrank.proofs.Begins.{event_rules, leaves_nothing, choose_from}
use Rattle.unrank.proofs.choose.choose_leaf.Goals as goal
use Rattle.unrank.proofs.choose.choose_leaf.Goals.{then-turns+else-rest-eq0, else-turns}

pub first_rule-first-requires : goal.first_rule-first-requires
first_rule-first-requires c = rw c.leaf_count-leaves.ensures.0 (event_rules _ (taken c.args.grammar.accepted).sound)

pub loop-r-init : goal.loop-r-init
loop-r-init c =
    let p = rw c.leaf_count-leaves.ensures.0 at c.first_rule-first.ensures in
    (omega (arith, p.high, c.leaf_count-leaves.ensures.0), choose_from _ _ _ (leaves_nothing _ _ _ _ p))

pub loop-r-preserved : goal.loop-r-preserved
loop-r-preserved c =
    let v = c.loop-r.invariant in
    let s = c.turns in
    elim c.if-turns.branch [
      | then-turns+else-rest-eq0 w ↦ (omega arith, rw w.rest-is (leaf_past _ _ _ _ _ _ v.1 s.result s.ensures w.if-turns.true w.if-rest-eq0.false))
      | else-turns w ↦ (omega arith, rw w.rest-is (leaf_skip _ _ _ _ _ _ v.1 s.result s.ensures w.if-turns.false))
    ]
