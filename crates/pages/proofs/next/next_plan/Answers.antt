-- Rules rise, so a rule of another symbol ends the walk; a split that is found is the next root, and where none is, the next rule's splits follow.
use Rattle.std.proofs.Common.{arith}
use Rattle.image.proofs.Outcomes.{taken}
use Rattle.table.proofs.Adds.{ready_in, reached}
use Rattle.pages.proofs.Following.{walked_out, walked_other, walked_on, walked_found}
use Rattle.pages.proofs.next.next_plan.Goals as goal

pub returns-then-p-symbol : goal.returns-then-p-symbol
returns-then-p-symbol c =
    let o = c.requires.i_lt_j in
    walked_other _ (taken c.args.counts.grammar.accepted).sound _ _ _ _ _ (ready_in _ _ _ _ _ c.args.counts.counts o.2) _ _ c.requires.b_bound.0 c.requires.b_bound.1 o.0 o.1 _ _ c.loop-c.invariant _ _ c.symbol_count-symbols.ensures.0
    c.pair_of-p.ensures (omega (arith, c.loop-c-test.true, c.pair_count-c-end.ensures.0)) c.if-p-symbol.true

pub next_split-requires : goal.next_split-requires
next_split-requires c =
    let o = c.requires.i_lt_j in (
      reached _ _ _ _ _ _ _ _ c.symbol_count-symbols.ensures.0 c.args.counts.counts c.pair_of-p.ensures (omega (arith, o.0, o.1)) o.2 o.3,
      c.loop-c.invariant.after,
      c.loop-c.invariant.before,
    )

pub returns-in-Some : goal.returns-in-Some
returns-in-Some c =
    let o = c.requires.i_lt_j in
    let m = c.pair_count-c-end.ensures.0 in
    let lt = c.loop-c-test.true in
    rw (c.first_by.ensures, c.leaf_count-leaves.ensures.0)
    (walked_found _ (taken c.args.counts.grammar.accepted).sound _ _ _ _ _ (ready_in _ _ _ _ _ c.args.counts.counts o.2) _ _ c.requires.b_bound.0 c.requires.b_bound.1 o.0 o.1 _ _ c.loop-c.invariant _ _ c.symbol_count-symbols.ensures.0
    c.pair_of-p.ensures (omega (arith, lt, m)) c.if-p-symbol.false _ c.in-Some.ensures
    (omega (arith, lt, m, (taken c.args.counts.grammar.accepted).sound.range.leaves, (taken c.args.counts.grammar.accepted).sound.range.pairs)))

pub loop-c-preserved : goal.loop-c-preserved
loop-c-preserved c =
    let o = c.requires.i_lt_j in
    walked_on _ (taken c.args.counts.grammar.accepted).sound _ _ _ _ _ (ready_in _ _ _ _ _ c.args.counts.counts o.2) _ _ c.requires.b_bound.0 c.requires.b_bound.1 o.0 o.1 _ _ c.loop-c.invariant _ _ c.symbol_count-symbols.ensures.0
    c.pair_of-p.ensures (omega (arith, c.loop-c-test.true, c.pair_count-c-end.ensures.0)) c.if-p-symbol.false c.in-None.ensures

pub returns : goal.returns
returns c =
    let o = c.requires.i_lt_j in
    walked_out _ (taken c.args.counts.grammar.accepted).sound _ _ _ _ _ (ready_in _ _ _ _ _ c.args.counts.counts o.2) _ _ c.requires.b_bound.0 c.requires.b_bound.1 o.0 o.1 _ _ c.loop-c.invariant (omega (arith, c.loop-c-test.false, c.pair_count-c-end.ensures.0))
