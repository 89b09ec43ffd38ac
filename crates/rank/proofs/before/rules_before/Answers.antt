-- A rule of the symbol adds what its splits do; a rule of another symbol adds nothing.
use Rattle.std.proofs.Common.{arith}
use Rattle.rank.proofs.Behind.{rules_start, rule_added, rule_passed}
use Rattle.rank.proofs.before.rules_before.Goals as goal
use Rattle.rank.proofs.before.rules_before.Goals.{then-p-symbol, else-p-symbol}

pub loop-c-init : goal.loop-c-init
loop-c-init c = (omega arith, rules_start _)

pub loop-c-preserved : goal.loop-c-preserved
loop-c-preserved c =
    let v = c.loop-c.invariant in
    let n = c.symbol_count-symbols.ensures.0 in
    let a = c.pair_of-p.ensures in
    elim c.if-p-symbol.branch [
      | then-p-symbol w ↦ (omega arith, rw w.total-is (rule_added _ _ _ _ _ _ _ v.1 _ _ n a _ _ w.if-p-symbol.true w.splits_before-share.ensures w.held_sum-total.ensures))
      | else-p-symbol w ↦ (omega arith, rw w.total-is (rule_passed _ _ _ _ _ _ _ v.1 _ _ n a w.if-p-symbol.false))
    ]
