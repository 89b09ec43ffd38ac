-- What is before the derivation, and its place among those by the same rule and split.
use Rattle.rank.proofs.Behind.{place_of_is}
use Rattle.rank.proofs.before.node_rank.Goals as goal

pub returns : goal.returns
returns c =
    place_of_is _ _ _ _ _ _ _ _ _ _ c.symbol_count-symbols.ensures.0 c.pair_of-p.ensures _ _ _ _
    c.rules_before-rules.ensures c.splits_before-splits.ensures c.word_of-count.ensures c.held_product-lefts.ensures _ _ _
    c.held_sum.ensures c.held_sum-2.ensures c.held_sum-3.ensures
