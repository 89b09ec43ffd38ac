-- A refusal of the image is one of the record; past it the number of events decides, and no rule is named.
use Rattle.layout.specs.Layout.{decode}
use Rattle.image.specs.Image.{image_rows, event_rows}
use Rattle.image.proofs.Outcomes.{passed_on, refuses_first}
use Rattle.image.proofs.test_record.Goals as goal

pub returns-in_err-grammar-clause-tested : goal.returns-in_err-grammar-clause-tested
returns-in_err-grammar-clause-tested c =
    let b = c.args.image.now in
    rw (passed_on _ _ c.from_residual.ensures.1)
    (refuses_first (image_rows b) (event_rows c.args.events) (decode b) _ c.in_err-grammar.ensures.tested)
