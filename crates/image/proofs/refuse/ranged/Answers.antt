-- Each branch tests one of the five bounds, so what stops breaks one and what is left keeps them all: the grammar's counts and flag are the header's.
use native.Mathlib.Omega.{arith}
use Rattle.layout.proofs.Decoded.{symbol_count, leaf_count, pair_count, quiet_flag}
use Rattle.image.proofs.refuse.ranged.Goals as goal

pub returns-then-symbols-lt1 : goal.returns-then-symbols-lt1
returns-then-symbols-lt1 c = λ h. omega (arith, h.some, symbol_count c.args.image.now)

pub returns-then-symbols-gt-MOST_SYMBOLS : goal.returns-then-symbols-gt-MOST_SYMBOLS
returns-then-symbols-gt-MOST_SYMBOLS c = λ h. omega (arith, h.symbols, symbol_count c.args.image.now)

pub returns-then-leaves-gt-MOST_LEAVES : goal.returns-then-leaves-gt-MOST_LEAVES
returns-then-leaves-gt-MOST_LEAVES c = λ h. omega (arith, h.leaves, leaf_count c.args.image.now)

pub returns-then-pairs-gt-MOST_PAIRS : goal.returns-then-pairs-gt-MOST_PAIRS
returns-then-pairs-gt-MOST_PAIRS c = λ h. omega (arith, h.pairs, pair_count c.args.image.now)

pub returns-then-flag-gt-MOST_FLAG : goal.returns-then-flag-gt-MOST_FLAG
returns-then-flag-gt-MOST_FLAG c = λ h. omega (arith, h.quiet, quiet_flag c.args.image.now)

pub returns : goal.returns
returns c = record {
  some = omega (arith, symbol_count c.args.image.now);
  symbols = omega (arith, symbol_count c.args.image.now);
  leaves = omega (arith, leaf_count c.args.image.now);
  pairs = omega (arith, pair_count c.args.image.now);
  quiet = omega (arith, quiet_flag c.args.image.now);
}
