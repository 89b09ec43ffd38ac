-- An event rule's highest symbol is its own, and a pair rule's the largest of its three.
use Rattle.layout.specs.Layout.{decode}
use Rattle.rules.proofs.Numbers.{leaf_fits, pair_fits}
use Rattle.rules.proofs.symbols_fit.Goals as goal

pub returns-in-Leaf : goal.returns-in-Leaf
returns-in-Leaf c = leaf_fits (decode c.args.image.now) c.args.r c.requires.below c.symbol_count-n.ensures.0 c.in-Leaf.ensures

pub returns-in-Pair : goal.returns-in-Pair
returns-in-Pair c = rw (c.max-in-Pair.ensures, c.max.ensures) (pair_fits (decode c.args.image.now) c.args.r c.requires.below c.symbol_count-n.ensures.0 c.in-Pair.ensures)
