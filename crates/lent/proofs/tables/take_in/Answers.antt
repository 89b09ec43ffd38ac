-- Only the number can refuse, so that the words are a filled table; and the bytes show them.
use native.Mathlib.Omega.{arith}
use Rattle.packed.proofs.Words.{length_words}
use Rattle.packed.proofs.Puts.{put_front}
use Rattle.image.proofs.Outcomes.{taken}
use Rattle.table.proofs.Tables.{counts_in}
use Rattle.lent.proofs.Over.{page_fills, page_over}
use Rattle.lent.proofs.tables.take_in.Goals as goal

pub page_accepted-paged-requires : goal.page_accepted-paged-requires
page_accepted-paged-requires c = record {
  count = record { image = taken c.args.grammar.accepted; few = c.requires.0.few; fits = c.requires.1 };
  fits = c.requires.0.space;
}

pub invariant_of-total_in : goal.invariant_of-total_in
invariant_of-total_in c =
    let p = c.page_accepted-paged.ensures in
    let filled = p.filled (page_fills _ _ _ _ _ _ _ _ _ p (taken c.args.grammar.accepted) c.requires.0.few c.requires.1 c.requires.0.space) in
    record { counts = counts_in _ _ _ _ c.requires.1 filled }

pub words_needed-need-requires : goal.words_needed-need-requires
words_needed-need-requires c =
    (rw c.symbol_count.ensures.0 (taken c.args.grammar.accepted).sound.range.symbols, omega (arith, c.requires.0.few))

pub returns : goal.returns
returns c = let e = rw c.symbol_count.ensures.0 at c.words_needed-need.ensures in
    let put = put_front 4 _ _ _ _ _ e (omega arith) c.write.ensures in
    record {
      page = page_over _ _ _ _ _ _ _ _ _ c.page_accepted-paged.ensures (taken c.args.grammar.accepted) c.requires.0.few c.requires.1 c.requires.0.space c.args.table.now _ (rw length_words (omega (arith, c.requires.0.fits))) put;
      framed = put.frame;
      total = c.total_in-total.ensures;
    }
