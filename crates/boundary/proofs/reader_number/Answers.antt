-- The number, the rule and the number of the reading, taken from the answer one by one, are what is told of it.
use mathlib.Core.Path.{◌≡◌, sym, subst}
use Prim.Native.Nat.{ℕ}
use Rattle.std.specs.declared.result.Result.{Result}
use Rattle.std.specs.declared.result.Result.TheVariants.{Ok, Err}
use Rattle.std.specs.Result.{result_unwrap_or}
use Rattle.image.specs.declared.numbered.Refusal.{Refusal}
use Rattle.image.specs.Answer.{number_in, rule_in}
use Rattle.readings.specs.Answer.{Found, found}
use Rattle.readings.specs.Number.{NumberIs}
use Rattle.boundary.proofs.reader_number.Goals as goal

told : (r : Result ℕ Refusal) {n m x : ℕ} → n ≡ number_in r → m ≡ rule_in r → x ≡ result_unwrap_or r 0
    → found r ≡ record { refusal = n; rule = m; reading = x }
told (Ok x) p q e = λ i. record { refusal = sym p i; rule = sym q i; reading = sym e i }
told (Err r) p q e = λ i. record { refusal = sym p i; rule = sym q i; reading = sym e i }

pub returns : goal.returns
returns c =
    let a = c.args in
    subst (λ (p : Found). NumberIs a.image.now a.events.now a.script.now a.table.now p c.number-found.new.table)
    (told _ c.tell.ensures.0 c.tell.ensures.1 c.unwrap_or.ensures) c.number-found.ensures
