-- Promised: the number and the rule of a refusal, and what C is told of a test: 0 with N, L and B, or a refusal with zeros.
-- Assumes nothing.
use Rattle.std.specs.Prelude.{ℕ}
use Rattle.std.specs.declared.result.Result.{Result}
use Rattle.std.specs.declared.result.Result.TheVariants.{Ok, Err}
use Rattle.derivation.specs.Grammar.{Grammar, event_rule_count, pair_rule_count}
use Rattle.image.specs.declared.numbered.Refusal.{Refusal}
use Rattle.image.specs.declared.numbered.Refusal.TheVariants as refusal

-- ---- refusals
abbrev pub number_of : Refusal → ℕ
number_of refusal.Short = 1
number_of refusal.Unmarked = 2
number_of refusal.UnknownVersion = 3
number_of refusal.OutOfRange = 4
number_of refusal.WrongLength = 5
number_of (refusal.UnknownSymbol rule) = 6
number_of (refusal.OutOfOrder rule) = 7
number_of refusal.DeadSymbol = 15
number_of refusal.TooManyEvents = 8
number_of refusal.OddBytes = 14
number_of refusal.ShortChart = 9
number_of refusal.ShortTable = 10
number_of refusal.ShortRoom = 11
number_of refusal.NoSuchReading = 12
number_of refusal.BeyondLimit = 13
number_of refusal.SessionFull = 17
number_of refusal.SessionEmpty = 18

abbrev pub rule_of : Refusal → ℕ
rule_of (refusal.UnknownSymbol rule) = rule
rule_of (refusal.OutOfOrder rule) = rule
rule_of _ = 0

-- ---- of any answer: 0, or the number and the rule of the refusal
abbrev pub number_in : {T : Type 0} → Result T Refusal → ℕ
number_in (Ok x) = 0
number_in (Err r) = number_of r

abbrev pub rule_in : {T : Type 0} → Result T Refusal → ℕ
rule_in (Ok x) = 0
rule_in (Err r) = rule_of r

-- ---- of a test
pub record Tested : Type 0 where
  pub refusal : ℕ
  pub rule : ℕ
  pub symbols : ℕ
  pub leaves : ℕ
  pub pairs : ℕ

abbrev pub passed : Grammar → Tested
passed g = record { refusal = 0; rule = 0; symbols = g.symbols; leaves = event_rule_count g; pairs = pair_rule_count g }

abbrev pub refused : Refusal → Tested
refused r = record { refusal = number_of r; rule = rule_of r; symbols = 0; leaves = 0; pairs = 0 }
