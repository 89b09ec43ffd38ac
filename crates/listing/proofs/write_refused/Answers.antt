-- The word, and behind it the line of the numbers that tell the refusal, at most two.
use mathlib.Core.Path.{◌≡◌, ap}
use mathlib.Core.List.{List, [], ◌∷◌, ◌++◌}
use Prim.Native.Nat.{ℕ}
use native.Mathlib.Omega.{arith}
use lib.ListN.{take}
use lib.Seq.{length-take-le}
use Rattle.image.specs.Answer.{number_of, rule_of}
use Rattle.text.specs.Text.{line}
use Rattle.text.proofs.Puts.{put_more, put_as}
use Rattle.listing.specs.Listing.{refused_words}
use Rattle.listing.proofs.write_refused.Goals as goal

pub returns : goal.returns
returns c =
    let start : List ℕ = 114 ∷ 101 ∷ 102 ∷ 117 ∷ 115 ∷ 101 ∷ 100 ∷ 32 ∷ [] in
    let words = c.from.result ∷ c.rule.result ∷ [] in
    let numbers : take c.told-n.result words ≡ refused_words (number_of c.args.refusal) (rule_of c.args.refusal) =
    cc (c.from.ensures, c.number.ensures, c.rule.ensures, c.told-n.ensures.1 (rule_of c.args.refusal)) in (
      omega (arith, c.put_line.ensures.upper_bound, c.told-n.ensures.0, length-take-le _ words c.told-n.ensures.0, c.put_bytes-behind.ensures.value),
      put_as _ _ _ _ _ _ (ap (λ (x : List ℕ). start ++ line x) numbers) (put_more _ _ _ _ _ _ _ _ c.put_bytes-behind.ensures.put c.put_line.ensures.put),
    )
