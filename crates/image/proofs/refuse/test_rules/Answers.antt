-- Where a search names a rule a demand fails, and it is the first that does; where it names none every rule meets the demand. There are at most
-- 768 rules, so that a number of theirs fits 16 bits. Past both demands the grammar is sound, and the test for dead symbols applies.
use native.Mathlib.Omega.{arith}
use Rattle.layout.proofs.Decoded.{leaf_count, pair_count}
use Rattle.image.proofs.Images.{sound}
use Rattle.image.proofs.refuse.test_rules.Goals as goal

pub overflow_cast-result : goal.overflow_cast-result
overflow_cast-result c =
    omega (arith, c.in-Some.ensures.within, c.requires.1.leaves, c.requires.1.pairs, leaf_count c.args.image.now, pair_count c.args.image.now)

pub overflow_cast-result-in-Some-first_unordered : goal.overflow_cast-result-in-Some-first_unordered
overflow_cast-result-in-Some-first_unordered c =
    omega (arith, c.in-Some-first_unordered.ensures.within, c.requires.1.leaves, c.requires.1.pairs, leaf_count c.args.image.now, pair_count c.args.image.now)

pub all_live-requires : goal.all_live-requires
all_live-requires c = (c.requires.0, sound c.args.image.now c.requires.1 c.in_default.ensures c.in_default-first_unordered.ensures)
