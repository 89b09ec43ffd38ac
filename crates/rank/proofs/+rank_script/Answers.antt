-- From the numbers of the parts that of the whole is its place behind those before it.
use Rattle.std.proofs.Common.{refl, arith}
use Rattle.std.proofs.Math.Nat.{le_trans}
use Rattle.derivation.proofs.Scripts.{spells_length}
use Rattle.image.proofs.Outcomes.{taken}
use Rattle.table.proofs.Slots.{words_on}
use Rattle.follow.proofs.Spelling.{spelt_node}
use Rattle.rank.proofs.Ranks.{leaf_ranked, node_ranked}
use Rattle.rank.proofs.+rank_script.Goals as goal

pub returns-then-k-i : goal.returns-then-k-i
returns-then-k-i t c = leaf_ranked _ (taken c.args.counts.now.grammar.accepted).sound _ _ _ _ _ c.if-k-i.true c.requires.spells

pub bounds-script-0 : goal.bounds-script-0
bounds-script-0 t c = omega (arith, spells_length _ _ _ _ _ _ c.requires.spells, c.requires.i_lt_k)

pub overflow_sub-b : goal.overflow_sub-b
overflow_sub-b t c = omega (arith, (spelt_node _ _ _ _ _ _ _ refl c.if-k-i.false c.requires.spells).root.low, c.leaf_count-leaves.ensures.0)

pub bounds-script-1 : goal.bounds-script-1
bounds-script-1 t c = omega (arith, spells_length _ _ _ _ _ _ c.requires.spells, c.requires.i_lt_k)

pub pair_of-p-requires : goal.pair_of-p-requires
pair_of-p-requires t c =
    let h = (spelt_node _ _ _ _ _ _ _ refl c.if-k-i.false c.requires.spells).root in
    omega (arith, h.low, h.high, c.leaf_count-leaves.ensures.0)

pub overflow_sub-mid : goal.overflow_sub-mid
overflow_sub-mid t c = omega (arith, (spelt_node _ _ _ _ _ _ _ refl c.if-k-i.false c.requires.spells).root.after)

pub slice_bounds-rank_script-count : goal.slice_bounds-rank_script-count
slice_bounds-rank_script-count t c = omega (arith, (spelt_node _ _ _ _ _ _ _ refl c.if-k-i.false c.requires.spells).root.after)

pub slice_bounds-rank_script-start : goal.slice_bounds-rank_script-start
slice_bounds-rank_script-start t c = omega (arith, (spelt_node _ _ _ _ _ _ _ refl c.if-k-i.false c.requires.spells).root.after)

pub slice_bounds-rank_script-end : goal.slice_bounds-rank_script-end
slice_bounds-rank_script-end t c =
    let h = (spelt_node _ _ _ _ _ _ _ refl c.if-k-i.false c.requires.spells).root in
    omega (arith, h.after, h.before, spells_length _ _ _ _ _ _ c.requires.spells)

pub rank_script-first-requires : goal.rank_script-first-requires
rank_script-first-requires t c =
    let p = c.requires.i_lt_k in
    let r = (spelt_node _ _ _ _ _ _ _ refl c.if-k-i.false c.requires.spells) in
    let h = r.root in (
      omega (arith, h.after, h.before),
      ((h.after, omega (arith, h.before, p.1), omega (arith, h.before, p.2)), rw (c.pair_of-p.ensures.left, c.leaf_count-leaves.ensures.0) r.first),
    )

pub rank_script-second-requires : goal.rank_script-second-requires
rank_script-second-requires t c =
    let p = c.requires.i_lt_k in
    let r = (spelt_node _ _ _ _ _ _ _ refl c.if-k-i.false c.requires.spells) in
    let h = r.root in (
      omega (arith, h.after, h.before),
      ((h.before, p.1, p.2), rw (c.pair_of-p.ensures.right, c.leaf_count-leaves.ensures.0) r.second),
    )

pub node_rank-requires-clause-i_lt_j : goal.node_rank-requires-clause-i_lt_j
node_rank-requires-clause-i_lt_j t c =
    let p = c.requires.i_lt_k in
    let h = (spelt_node _ _ _ _ _ _ _ refl c.if-k-i.false c.requires.spells).root in
    (h.after, h.before, p.2, le_trans (words_on _ _ _ p.1) c.args.counts.now.counts.fits)

pub node_rank-requires-clause-b_bound : goal.node_rank-requires-clause-b_bound
node_rank-requires-clause-b_bound t c =
    let h = (spelt_node _ _ _ _ _ _ _ refl c.if-k-i.false c.requires.spells).root in
    omega (arith, h.low, h.high, c.leaf_count-leaves.ensures.0)

pub returns : goal.returns
returns t c =
    let h = (spelt_node _ _ _ _ _ _ _ refl c.if-k-i.false c.requires.spells).root in
    let a = c.pair_of-p.ensures in
    let n = c.leaf_count-leaves.ensures.0 in
    node_ranked _ (taken c.args.counts.now.grammar.accepted).sound _ _ c.args.counts.now.counts _ _ _ _ _ c.requires.i_lt_k.1 (omega (arith, h.low, h.high, n)) (rw n h.symbol) h.after h.before
    _ (spells_length _ _ _ _ _ _ c.requires.spells) (omega (arith, h.low, n)) refl _ _ _
    (rw a.left at c.rank_script-first.ensures) (rw a.right at c.rank_script-second.ensures) c.node_rank.ensures
