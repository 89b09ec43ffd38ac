-- The search by parts starts with the symbols of the event rules, the search from symbol 0 with that.
use mathlib.Core.Path.{subst⁻¹}
use Rattle.layout.specs.Layout.{decode}
use Rattle.live.specs.declared.Sought.{Sought}
use Rattle.live.specs.declared.Sought.TheVariants.{Reachable}
use Rattle.live.specs.Search.{Starts}
use Rattle.live.proofs.Searches.{begun_zero}
use Rattle.live.proofs.start.Goals as goal

pub returns-in-Reachable : goal.returns-in-Reachable
returns-in-Reachable c = let g = decode c.args.image.now in
    subst⁻¹ (λ (o : Sought). Starts o g c.put_bit.result) c.in-Reachable.is
    (subst⁻¹ (Starts Reachable g) c.put_bit.ensures (begun_zero g))
