-- A round that adds nothing to the set shows that no rule leaves it, and then it has all that is sought.
use mathlib.Core.Path.{subst⁻¹}
use Rattle.layout.specs.Layout.{decode}
use Rattle.live.specs.Search.{Meets, Exactly}
use Rattle.live.proofs.Searches.{exactly}
use Rattle.live.proofs.search.Goals as goal

pub returns-then-more-set : goal.returns-then-more-set
returns-then-more-set c = subst⁻¹ (Exactly (Meets c.args.sought (decode c.args.image.now))) c.if-more-set.true
    (exactly _ _ _ c.loop-set.invariant (c.with_rules-more.ensures.ended c.if-more-set.true))
