-- Promised: what C is told of a test, made of what the test gives: N, L and B of the grammar that it hands on.
-- Assumes nothing.
use Rattle.std.specs.declared.result.Result.{Result}
use Rattle.std.specs.declared.result.Result.TheVariants.{Ok, Err}
use Rattle.layout.specs.Layout.{decode}
use Rattle.image.specs.Answer.{Tested, passed, refused}
use Rattle.image.specs.declared.accepted.Grammar.{Grammar}
use Rattle.image.specs.declared.numbered.Refusal.{Refusal}

abbrev pub tested : Result Grammar Refusal → Tested
tested (Ok g) = passed (decode g.bytes.now)
tested (Err r) = refused r
