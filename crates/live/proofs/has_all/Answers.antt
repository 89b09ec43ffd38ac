-- The closure says yes to the numbers that are in the set.
use native.Mathlib.Omega.{arith}
use mathlib.Core.Path.{refl}
use Rattle.std.proofs.Common.{rules, tests}
use Rattle.std.proofs.lemmas.Iterator.{YieldsList-from_range, cases_from_all}
use Rattle.bits.specs.Word.{Has}
use Rattle.live.proofs.Searches.{all_below}
use Rattle.live.proofs.has_all.Goals as goal

pub returns : goal.returns
returns c =
    let s = c.args.set in
    all_below c.args.n (Has s) c.all.result
    (cases_from_all _ _ _ (Has s) (λ a. Has s a → ⊥) c.all.ensures.ran (YieldsList-from_range 0 c.args.n c.args.n refl (omega arith))
    (λ x q k. (search rules, search (rules, tests)))
    (λ x q k. search (rules, tests)))
