-- The closure says yes to the rules that are at fault, and `find` stops at the first of them.
use Rattle.std.proofs.Common.{rules, tests}
use Rattle.std.proofs.lemmas.Iterator.{first_from_Range}
use Rattle.bits.proofs.Truths.{yes_of, no_of}
use Rattle.derivation.specs.Sound.{Rises}
use Rattle.layout.specs.Layout.{decode}
use Rattle.rules.proofs.Faults.{searched}
use Rattle.rules.proofs.first_unordered.Goals as goal

pub returns : goal.returns
returns c =
    let g = decode c.args.image.now in
    searched (Rises g) c.find.result c.rule_count.ensures.0
    (first_from_Range _ _ _ _ (λ r. Rises g r → ⊥) (Rises g) c.find.ensures.ran
    (λ x q k. search (rules, tests, no_of))
    (λ x q k. (search rules, search (rules, tests, yes_of))))
