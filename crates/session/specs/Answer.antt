-- Promised: what the services of a session answer, as C is told it: a refusal with its rule, zeros and the session as it was, or 0 with the session that is left.
-- Assumes nothing.
use Rattle.std.specs.Prelude.{ℕ, Bool, false}
use Rattle.std.specs.declared.result.Result.{Result}
use Rattle.std.specs.declared.result.Result.TheVariants.{Ok, Err}
use Rattle.image.specs.declared.numbered.Refusal.{Refusal}
use Rattle.image.specs.Answer.{number_of, rule_of}
use Rattle.session.specs.declared.Session.{Session}
use Rattle.session.specs.declared.Addition.{Addition}

-- ---- of an add to the session s: the session after the event, the firings of its column, and the verdict so far
pub record Added : Type 0 where
  pub session : Session
  pub firings : ℕ
  pub rule : ℕ
  pub refusal : ℕ
  pub admitted : Bool

abbrev pub added : Session → Result Addition Refusal → Added
added s (Ok a) = record { session = a.session; firings = a.firings; rule = 0; refusal = 0; admitted = a.admitted }
added s (Err r) = record { session = s; firings = 0; rule = rule_of r; refusal = number_of r; admitted = false }

-- ---- of the taking back of the last event of s
pub record TakenBack : Type 0 where
  pub session : Session
  pub refusal : ℕ

abbrev pub taken_back : Session → Result Session Refusal → TakenBack
taken_back s (Ok t) = record { session = t; refusal = 0 }
taken_back s (Err r) = record { session = s; refusal = number_of r }
