-- The grammar has as many rules as the header says, so its rules end where the test looks.
use native.Mathlib.Omega.{arith}
use mathlib.Core.Path.{refl}
use Rattle.bits.proofs.Truths.{decides_as, decides_eq}
use Rattle.layout.specs.Layout.{Sized}
use Rattle.layout.proofs.Decoded.{leaf_count, pair_count}
use Rattle.image.proofs.refuse.sized.Goals as goal

pub returns : goal.returns
returns c =
    let b = c.args.image.now in
    decides_as {Q = Sized b} _ (λ h. omega (arith, h, leaf_count b, pair_count b)) (λ h. omega (arith, h, leaf_count b, pair_count b)) (decides_eq _ _ refl)
