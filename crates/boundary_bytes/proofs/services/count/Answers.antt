-- A refusal leaves the table as it was; past all of them the readings of the words that the bytes show are counted.
use mathlib.Core.Path.{refl}
use Rattle.boundary_bytes.proofs.Answers.{lends_table, count_answers}
use Rattle.boundary_bytes.proofs.services.count.Goals as goal

pub take-taken-requires : goal.take-taken-requires
take-taken-requires c =
    rw c.in_ok-grammar.ensures.bytes
    (lends_table c.args.image.now c.args.events.now c.args.table.now _ c.read_2-n.ensures.out_after _ refl c.in_ok-grammar.ensures.tested.refusal _)

pub returns : goal.returns
returns c =
    count_answers c.args.image.now c.args.events.now c.args.table.now _ c.read_2-n.ensures.out_after _ refl c.in_ok-grammar.ensures.tested.refusal _ _ _ _
    (rw c.in_ok-grammar.ensures.bytes at c.take-taken.ensures)
