-- Promised: what judging answers, as C is told it: a refusal with its rule and zeros, or 0 with the verdict, the items and the firings.
-- Assumes nothing.
use Rattle.std.specs.Prelude.{ℕ, Bool, false}
use Rattle.std.specs.declared.result.Result.{Result}
use Rattle.std.specs.declared.result.Result.TheVariants.{Ok, Err}
use Rattle.image.specs.declared.numbered.Refusal.{Refusal}
use Rattle.image.specs.Answer.{number_of, rule_of}
use Rattle.chart.specs.declared.Judgement.{Judgement}

pub record Judged : Type 0 where
  pub refusal : ℕ
  pub rule : ℕ
  pub admitted : Bool
  pub items : ℕ
  pub firings : ℕ

abbrev pub judged : Result Judgement Refusal → Judged
judged (Ok j) = record { refusal = 0; rule = 0; admitted = j.admitted; items = j.items; firings = j.firings }
judged (Err r) = record { refusal = number_of r; rule = rule_of r; admitted = false; items = 0; firings = 0 }
