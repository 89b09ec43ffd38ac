-- The closure asks what a split adds, so the first that is found is the first that adds something.
use Rattle.std.proofs.Common.{◌≡◌, ◌<◌, ◌≤◌, ℕ, List, Option, Some, None, MatchOption, rules, tests}
use Rattle.std.proofs.lemmas.Iterator.{first_from_Range}
use Rattle.table.specs.Fill.{split_adds}
use Rattle.pages.specs.Step.{SplitIs}
use Rattle.pages.proofs.next.next_split.Goals as goal

split-is : (t : List ℕ) (N B C i k from : ℕ) (s : Option ℕ)
    → MatchOption s
    ((j : ℕ) → from ≤ j → j < k → split_adds t N B C i k j ≡ 0)
    (λ j. (from ≤ j) × (j < k) × (0 < split_adds t N B C i k j) × ((x : ℕ) → from ≤ x → x < j → split_adds t N B C i k x ≡ 0))
    → SplitIs t N B C i k from s
split-is t N B C i k from None h = record { nothing = h }
split-is t N B C i k from (Some j) h = record { after = h.0; before = h.1; some = h.2; skipped = record { nothing = h.3 } }

pub returns : goal.returns
returns c =
    let a = c.args in
    let adds : ℕ → ℕ = split_adds a.table.now a.symbols a.left a.right a.i a.k in
    split-is _ _ _ _ _ _ _ c.find.result
    (first_from_Range _ _ _ c.find.result (λ j. 0 < adds j) (λ j. adds j ≡ 0) c.find.ensures.ran (λ j q h. search (rules, tests)) (λ j q h. search (rules, tests)))
