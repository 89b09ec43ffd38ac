-- The place falls in the share of one rule and split, and there a quotient and a remainder by the right part's count number the two parts.
use Rattle.std.proofs.Common.{◌≡◌, ◌∙◌, ◌<◌, ◌≤◌, ℕ, List, get_or, length, arith}
use Rattle.derivation.specs.Derivations.{count as number}
use Rattle.derivation.specs.Grammar.{Grammar, pair_rule}
use Rattle.lookup.specs.declared.Pair.{Pair}
use Rattle.lookup.specs.Rule.{PairIs}
use Rattle.image.proofs.Outcomes.{taken}
use Rattle.table.specs.Table.{held, slot_of}
use Rattle.table.specs.Fill.{CountsIn}
use Rattle.table.proofs.Adds.{ready_in, reached}
use Rattle.unrank.proofs.Plans.{chosen_some, planned_some, planned}
use Rattle.unrank.proofs.choose.make_plan.Goals as goal

-- the word of the right symbol is its count
word-is : (g : Grammar) (w t : List ℕ) (N b j k x : ℕ) (p : Pair) → N ≡ g.symbols → CountsIn g w t → PairIs g b p → j < k → k ≤ length w
    → x ≡ get_or t (slot_of N p.right j k) 0 → x ≡ held (number g w (pair_rule g b).right j k)
word-is g w t N b j k x p n c a l h e = rw (n, a.right) at e ∙ c.at _ _ _ (rw a.right at a.right_fits) l h

pub choose_pair-c-requires-clause-i_lt_k : goal.choose_pair-c-requires-clause-i_lt_k
choose_pair-c-requires-clause-i_lt_k c = (omega (arith, c.requires.i_bound.0), c.requires.i_bound.1, c.requires.i_bound.2)

pub choose_pair-c-requires-clause-rank_bound : goal.choose_pair-c-requires-clause-rank_bound
choose_pair-c-requires-clause-rank_bound c =
    let p = c.requires.i_bound in
    chosen_some _ (taken c.args.counts.grammar.accepted).sound _ _ _ _ _ _ (ready_in _ _ _ _ _ c.args.counts.counts p.1) c.requires.rank_lt_limit.0 p.0 c.requires.rank_lt_limit.1

pub word_of-count-requires : goal.word_of-count-requires
word_of-count-requires c =
    let p = c.requires.i_bound in
    let r = reached _ _ _ _ _ c.args.i c.args.k _ c.symbol_count.ensures.0 c.args.counts.counts c.pair_of-p.ensures (omega (arith, p.0)) p.1 p.2 in
    (r.symbols, r.right, c.choose_pair-c.ensures.split.before, r.few, r.fits)

pub nonzero_div-first : goal.nonzero_div-first
nonzero_div-first c =
    let p = c.requires.i_bound in
    planned_some _ (taken c.args.counts.grammar.accepted).sound _ _ _ _ _ _ (ready_in _ _ _ _ _ c.args.counts.counts p.1) c.requires.rank_lt_limit.0 _ c.choose_pair-c.ensures _
    (word-is _ _ _ _ _ _ _ _ _ c.symbol_count.ensures.0 c.args.counts.counts c.pair_of-p.ensures c.choose_pair-c.ensures.split.before p.1 c.word_of-count.ensures)

pub nonzero_rem-second : goal.nonzero_rem-second
nonzero_rem-second c =
    let p = c.requires.i_bound in
    planned_some _ (taken c.args.counts.grammar.accepted).sound _ _ _ _ _ _ (ready_in _ _ _ _ _ c.args.counts.counts p.1) c.requires.rank_lt_limit.0 _ c.choose_pair-c.ensures _
    (word-is _ _ _ _ _ _ _ _ _ c.symbol_count.ensures.0 c.args.counts.counts c.pair_of-p.ensures c.choose_pair-c.ensures.split.before p.1 c.word_of-count.ensures)

pub returns : goal.returns
returns c =
    let p = c.requires.i_bound in
    let a = c.pair_of-p.ensures in
    rw (c.leaf_count.ensures.0, a.left, a.right)
    (planned _ (taken c.args.counts.grammar.accepted).sound _ _ _ _ _ _ (ready_in _ _ _ _ _ c.args.counts.counts p.1) c.requires.rank_lt_limit.0 _ c.choose_pair-c.ensures _
    (word-is _ _ _ _ _ _ _ _ _ c.symbol_count.ensures.0 c.args.counts.counts a c.choose_pair-c.ensures.split.before p.1 c.word_of-count.ensures)
    (omega (arith, c.choose_pair-c.ensures.known, (taken c.args.counts.grammar.accepted).sound.range.leaves, (taken c.args.counts.grammar.accepted).sound.range.pairs)))
