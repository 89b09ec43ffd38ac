-- The rules that the search passes add nothing; a rule of the symbol takes off the rest what its splits add, and another leaves it.
use Rattle.std.proofs.Common.{arith}
use Rattle.image.proofs.Outcomes.{taken}
use Rattle.table.proofs.Adds.{reached}
use Rattle.unrank.proofs.Plans.{rule_past, rule_skip}
use Rattle.unrank.proofs.Begins.{pair_rules, pairs_nothing, choose_from}
use Rattle.unrank.proofs.choose.choose_pair.Goals as goal
use Rattle.unrank.proofs.choose.choose_pair.Goals.{then-p-symbol+in-Err, else-p-symbol}

pub first_rule-requires : goal.first_rule-requires
first_rule-requires c = rw (c.leaf_count-leaves.ensures.0, c.pair_count-pairs.ensures.0) (pair_rules _ (taken c.args.counts.grammar.accepted).sound)

pub loop-b-init : goal.loop-b-init
loop-b-init c =
    let n = c.leaf_count-leaves.ensures.0 in
    let p = rw (n, c.pair_count-pairs.ensures.0) at c.first_rule.ensures in
    (omega (arith, p.high, n, c.pair_count-pairs.ensures.0), choose_from _ _ _ (rw n (pairs_nothing _ _ (taken c.args.counts.grammar.accepted).sound _ _ _ _ p)))

pub pick_split-requires : goal.pick_split-requires
pick_split-requires c =
    let p = c.requires.i_lt_k in
    reached _ _ _ _ _ _ _ _ c.symbol_count-symbols.ensures.0 c.args.counts.counts c.pair_of-p.ensures p.0 p.1 p.2

pub loop-b-preserved : goal.loop-b-preserved
loop-b-preserved c =
    let v = c.loop-b.invariant in
    let n = c.symbol_count-symbols.ensures.0 in
    let a = c.pair_of-p.ensures in
    elim c.if-p-symbol.branch [
      | then-p-symbol+in-Err w ↦ (omega arith, rw w.rest-is (rule_past _ _ _ _ _ _ _ _ v.1 _ _ n a _ w.if-p-symbol.true w.in-Err.ensures))
      | else-p-symbol w ↦ (omega arith, rw w.rest-is (rule_skip _ _ _ _ _ _ _ _ v.1 _ _ n a w.if-p-symbol.false))
    ]
