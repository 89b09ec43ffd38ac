-- A page of one.
use native.Mathlib.Omega.{arith}
use Rattle.image.proofs.Outcomes.{passed_on}
use Rattle.readings.proofs.Pages.{page_of_one}
use Rattle.readings.proofs.reading.Goals as goal

pub returns-in_err-page : goal.returns-in_err-page
returns-in_err-page c =
    rw (passed_on _ _ c.from_residual.ensures.1)
    (page_of_one _ _ _ _ _ _ _ _ (omega (arith, c.ranges.k)) c.in_err-page.ensures)

pub returns : goal.returns
returns c = page_of_one _ _ _ _ _ _ _ _ (omega (arith, c.ranges.k)) c.in_ok-page.ensures
