-- A script is a root, tested by itself, and the scripts of its two parts.
use Rattle.bits.proofs.Truths.{decides_as}
use Rattle.follow.proofs.Spelling.{leaf_says, node_spelt, node_spells}
use Rattle.follow.proofs.+follows.Goals as goal

pub returns-then-k-i : goal.returns-then-k-i
returns-then-k-i t c = leaf_says _ _ _ _ _ c.args.script.now _ _ c.from-r.ensures c.from-j.ensures c.is_leaf.result c.requires.3 c.if-k-i.true c.is_leaf.ensures

pub returns-then-not-is_node : goal.returns-then-not-is_node
returns-then-not-is_node t c = λ p. c.if-not-is_node.ensures (node_spelt _ _ _ _ _ c.args.script.now _ _ c.from-r.ensures c.from-j.ensures c.if-k-i.false p).root

pub returns-else-follows : goal.returns-else-follows
returns-else-follows t c =
    rw c.if-follows.false (λ p. c.if-follows.ensures
    (rw (c.pair_of-p.ensures.left, c.leaf_count.ensures.0) (node_spelt _ _ _ _ _ c.args.script.now _ _ c.from-r.ensures c.from-j.ensures c.if-k-i.false p).first))

pub returns-then-follows : goal.returns-then-follows
returns-then-follows t c =
    let a = c.pair_of-p.ensures in
    let n = c.leaf_count.ensures.0 in
    decides_as c.follows-then-follows.result
    (λ q. node_spells _ _ _ _ _ c.args.script.now _ _ c.from-r.ensures c.from-j.ensures c.requires.3 (record {
      root = c.if-not-is_node.ensures;
      first = rw (a.left, n) at c.if-follows.ensures;
      second = rw (a.right, n) at q;
    }))
    (λ p. rw (a.right, n) (node_spelt _ _ _ _ _ c.args.script.now _ _ c.from-r.ensures c.from-j.ensures c.if-k-i.false p).second)
    c.follows-then-follows.ensures
