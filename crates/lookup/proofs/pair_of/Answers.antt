-- The three bytes are those of the decoded rule, and its symbols are below N.
use native.Mathlib.Omega.{arith}
use Rattle.image.proofs.Outcomes.{taken}
use Rattle.lookup.proofs.Read.{pair_read}
use Rattle.lookup.proofs.pair_of.Goals as goal

pub returns : goal.returns
returns c = pair_read _ (taken c.args.grammar.accepted).sound c.args.b _ _ (omega arith) c.requires c.symbol_of.ensures.0 c.left_of.ensures.0 c.right_of.ensures.0
