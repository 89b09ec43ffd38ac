-- Promised: what the services answer, as C is told it: a refusal with its rule and zeros, or 0 with what is answered.
-- Assumes nothing.
use Rattle.std.specs.Prelude.{ℕ, Bool, false}
use Rattle.std.specs.declared.result.Result.{Result}
use Rattle.std.specs.declared.result.Result.TheVariants.{Ok, Err}
use Rattle.image.specs.declared.numbered.Refusal.{Refusal}
use Rattle.image.specs.Answer.{number_of, rule_of, number_in, rule_in}

-- how many readings there are, held at the limit
pub record Counted : Type 0 where
  pub refusal : ℕ
  pub rule : ℕ
  pub total : ℕ

abbrev pub counted : Result ℕ Refusal → Counted
counted (Ok total) = record { refusal = 0; rule = 0; total = total }
counted (Err r) = record { refusal = number_of r; rule = rule_of r; total = 0 }

-- a reading
pub record Read : Type 0 where
  pub refusal : ℕ
  pub rule : ℕ

abbrev pub read : {T : Type 0} → Result T Refusal → Read
read r = record { refusal = number_in r; rule = rule_in r }

-- how many scripts were written
pub record Paged : Type 0 where
  pub refusal : ℕ
  pub rule : ℕ
  pub written : ℕ

abbrev pub paged : Result ℕ Refusal → Paged
paged (Ok written) = record { refusal = 0; rule = 0; written = written }
paged (Err r) = record { refusal = number_of r; rule = rule_of r; written = 0 }

-- whether the words are the script of a reading
pub record Checked : Type 0 where
  pub refusal : ℕ
  pub rule : ℕ
  pub yes : Bool

abbrev pub checked : Result Bool Refusal → Checked
checked (Ok is) = record { refusal = 0; rule = 0; yes = is }
checked (Err r) = record { refusal = number_of r; rule = rule_of r; yes = false }

-- the number of the reading
pub record Found : Type 0 where
  pub refusal : ℕ
  pub rule : ℕ
  pub reading : ℕ

abbrev pub found : Result ℕ Refusal → Found
found (Ok reading) = record { refusal = 0; rule = 0; reading = reading }
found (Err r) = record { refusal = number_of r; rule = rule_of r; reading = 0 }
