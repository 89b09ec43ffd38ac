-- Inside: what a test by rows answers to the services above it.
-- Assumes nothing.
use Rattle.std.specs.Prelude.{List}
use Rattle.std.specs.declared.result.Result.{Result}
use Rattle.derivation.specs.Grammar.{Grammar}
use Rattle.image.specs.Refusal.{Row, First}
use Rattle.image.specs.Image.{Names}
use Rattle.image.specs.Answer.{number_in, rule_in}
use Rattle.image.specs.declared.numbered.Refusal.{Refusal}

-- what is answered by rows over the rules of g: the first number that applies, and the rule that it names
pub record RefusalIs {T : Type 0} (rows : List Row) (g : Grammar) (r : Result T Refusal) : Type 0 where
  pub refusal : First rows (number_in r)
  pub rule : Names g (number_in r) (rule_in r)
