-- The rule's bytes are the numbers that the decoded grammar compares it by.
use Rattle.derivation.proofs.Sound.{leaf_numbers, pair_numbers}
use Rattle.layout.specs.Layout.{decode}
use Rattle.rules.proofs.rule_of.Goals as goal
use native.Mathlib.Omega.{arith}

pub returns-then-r-leaf_count : goal.returns-then-r-leaf_count
returns-then-r-leaf_count c =
    let e = leaf_numbers (decode c.args.image.now) c.args.r (omega arith) in
    cc

pub returns-else-r-leaf_count : goal.returns-else-r-leaf_count
returns-else-r-leaf_count c =
    let e = pair_numbers (decode c.args.image.now) c.args.r (omega arith) c.requires.below in
    cc
