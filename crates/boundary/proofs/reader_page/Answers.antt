-- The number, the rule and how many scripts there are, taken from the answer one by one, are what is told of it.
use mathlib.Core.Path.{◌≡◌, sym, subst}
use Prim.Native.Nat.{ℕ}
use Rattle.std.specs.declared.result.Result.{Result}
use Rattle.std.specs.declared.result.Result.TheVariants.{Ok, Err}
use Rattle.std.specs.Result.{result_unwrap_or}
use Rattle.image.specs.declared.numbered.Refusal.{Refusal}
use Rattle.image.specs.Answer.{number_in, rule_in}
use Rattle.readings.specs.Answer.{Paged, paged}
use Rattle.readings.specs.Page.{PageIs}
use Rattle.boundary.proofs.reader_page.Goals as goal

told : (r : Result ℕ Refusal) {n m x : ℕ} → n ≡ number_in r → m ≡ rule_in r → x ≡ result_unwrap_or r 0
    → paged r ≡ record { refusal = n; rule = m; written = x }
told (Ok x) p q e = λ i. record { refusal = sym p i; rule = sym q i; written = sym e i }
told (Err r) p q e = λ i. record { refusal = sym p i; rule = sym q i; written = sym e i }

pub returns : goal.returns
returns c =
    let a = c.args in
    let after = c.page-paged.new in
    subst (λ (p : Paged). PageIs a.image.now a.events.now a.k a.m a.table.now a.room.now p after.table after.room)
    (told _ c.tell.ensures.0 c.tell.ensures.1 c.unwrap_or.ensures) c.page-paged.ensures
