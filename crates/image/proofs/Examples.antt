-- The images of 01, what the table says of them, by computing, and which rule it names; and the most cells and firings that 02 names.
-- Assumes nothing.
use native.Mathlib.Decide.{ℕ_discrete, dec_le, dec_lt}
use native.Mathlib.Omega.{arith}
use mathlib.Core.Logic.Dec
use mathlib.Core.Path.{◌≡◌, refl}
use mathlib.Core.List.{List, [], ◌∷◌}
use Prim.Native.Nat.{ℕ}
use Rattle.bits.specs.Truth.{same}
use Rattle.bits.specs.Bit.{bit}
use Rattle.bits.specs.Word.{put}
use Rattle.bits.proofs.Each.{all_both}
use Rattle.bits.proofs.Decisions.{dec_as, dec_implies, dec_either, dec_every}
use Rattle.derivation.specs.Sound.{most_symbols, most_pairs}
use Rattle.derivation.specs.Chart.{cells, firings_bound}
use Rattle.derivation.specs.Examples.{chain, quiet_chain, stop}
use Rattle.derivation.proofs.Orders.{not_before_self}
use Rattle.derivation.proofs.Least as least
use Rattle.derivation.proofs.LiveDecided.{up_clauses, down_clauses, derives?, reached?, live?}
use Rattle.layout.specs.Layout.{quiet_in, first_rule_at, counting, decode}
use Rattle.image.specs.Image.{most_events, Names}
use Rattle.image.proofs.Named.{names_low}
use Rattle.image.proofs.Decided.{pick, answer, dec_before, marked?, range?, fit?, rises?, bytes_decided, rules_decided, image_decided, image_refusal}

unfoldable pub chain_image : List ℕ
chain_image = 0x45 ∷ 0x53 ∷ 0x47 ∷ 1 ∷ 0 ∷ 1 ∷ 1 ∷ 0 ∷ 1 ∷ 0 ∷ 0 ∷ 7 ∷ 0 ∷ 0 ∷ 0 ∷ 0 ∷ []

unfoldable pub stop_image : List ℕ
stop_image =
    0x45 ∷ 0x53 ∷ 0x47 ∷ 1 ∷ 0 ∷ 6 ∷ 3 ∷ 0 ∷ 4 ∷ 0
    ∷ 2 ∷ 1 ∷ 0 ∷ 4 ∷ 2 ∷ 0 ∷ 5 ∷ 3 ∷ 0
    ∷ 0 ∷ 1 ∷ 0 ∷ 0 ∷ 2 ∷ 3 ∷ 1 ∷ 2 ∷ 3 ∷ 3 ∷ 4 ∷ 5 ∷ []

-- CHAIN with its event rule twice
unfoldable pub twice_image : List ℕ
twice_image = 0x45 ∷ 0x53 ∷ 0x47 ∷ 1 ∷ 0 ∷ 1 ∷ 2 ∷ 0 ∷ 1 ∷ 0 ∷ 0 ∷ 7 ∷ 0 ∷ 0 ∷ 7 ∷ 0 ∷ 0 ∷ 0 ∷ 0 ∷ []

-- CHAIN in version 2 with any flag, and a header of version 2 that ends before its flag
unfoldable pub flagged_image : ℕ → List ℕ
flagged_image flag = 0x45 ∷ 0x53 ∷ 0x47 ∷ 2 ∷ 0 ∷ 1 ∷ 1 ∷ 0 ∷ 1 ∷ 0 ∷ flag ∷ 0 ∷ 7 ∷ 0 ∷ 0 ∷ 0 ∷ 0 ∷ []

unfoldable pub unflagged_image : List ℕ
unflagged_image = 0x45 ∷ 0x53 ∷ 0x47 ∷ 2 ∷ 0 ∷ 1 ∷ 0 ∷ 0 ∷ 0 ∷ 0 ∷ []

-- with a dead symbol: no rule at all, where a quiet shift is proper too; CHAIN without its event rule, where 0 derives through itself only; CHAIN with a
-- second symbol that it needs and that no rule can finish; and CHAIN beside a symbol that derives an event and cannot be reached
unfoldable pub ruleless : ℕ → List ℕ
ruleless flag = 0x45 ∷ 0x53 ∷ 0x47 ∷ 2 ∷ 0 ∷ 1 ∷ 0 ∷ 0 ∷ 0 ∷ 0 ∷ flag ∷ []

unfoldable pub endless_image : List ℕ
endless_image = 0x45 ∷ 0x53 ∷ 0x47 ∷ 1 ∷ 0 ∷ 1 ∷ 0 ∷ 0 ∷ 1 ∷ 0 ∷ 0 ∷ 0 ∷ 0 ∷ []

unfoldable pub misspelt_image : List ℕ
misspelt_image = 0x45 ∷ 0x53 ∷ 0x47 ∷ 1 ∷ 0 ∷ 2 ∷ 1 ∷ 0 ∷ 2 ∷ 0 ∷ 0 ∷ 7 ∷ 0 ∷ 0 ∷ 0 ∷ 0 ∷ 0 ∷ 0 ∷ 1 ∷ []

unfoldable pub island_image : List ℕ
island_image = 0x45 ∷ 0x53 ∷ 0x47 ∷ 1 ∷ 0 ∷ 2 ∷ 2 ∷ 0 ∷ 1 ∷ 0 ∷ 0 ∷ 7 ∷ 0 ∷ 1 ∷ 7 ∷ 0 ∷ 0 ∷ 0 ∷ 0 ∷ []

-- they show the grammars of the examples
pub chain_shown : decode chain_image ≡ chain
unfolding decode counting first_rule_at quiet_in same chain_image chain
chain_shown = refl

pub stop_shown : decode stop_image ≡ stop
unfolding decode counting first_rule_at quiet_in same stop_image stop
stop_shown = refl

pub quiet_shown : decode (flagged_image 1) ≡ quiet_chain
unfolding decode counting first_rule_at quiet_in same flagged_image chain quiet_chain
quiet_shown = refl

-- CHAIN and STOP are accepted, and a rule twice is refusal 7; the flags 0 and 1 are accepted, 2 is refusal 4, and a flag that isn't there 5; a dead symbol
-- is refusal 15
pub refusals :
    (image_refusal chain_image ∷ image_refusal stop_image ∷ image_refusal twice_image
    ∷ image_refusal (flagged_image 0) ∷ image_refusal (flagged_image 1) ∷ image_refusal (flagged_image 2) ∷ image_refusal unflagged_image
    ∷ image_refusal (ruleless 0) ∷ image_refusal (ruleless 1) ∷ image_refusal endless_image ∷ image_refusal misspelt_image ∷ image_refusal island_image ∷ [])
    ≡ 0 ∷ 0 ∷ 7 ∷ 0 ∷ 0 ∷ 4 ∷ 5 ∷ 15 ∷ 15 ∷ 15 ∷ 15 ∷ 15 ∷ []
unfolding image_refusal image_decided bytes_decided rules_decided all_both answer pick marked? range? fit? rises? live? derives? reached? up_clauses down_clauses least.decided least.least least.found least.go_on least.ready least.pick least.all? bit put dec_every dec_before dec_as dec_either dec_implies Dec.and Dec.not decode counting first_rule_at quiet_in same chain_image stop_image twice_image flagged_image unflagged_image ruleless endless_image misspelt_image island_image ℕ_discrete dec_le dec_lt
refusals = refl

-- 7 names rule 1 there: rule 0 has no predecessor, and no rule is before itself
pub twice_named : Names (decode twice_image) 7 1
unfolding decode counting first_rule_at quiet_in same twice_image
twice_named = names_low (record { within = omega arith; before = λ r l z. absurd (omega arith); fault = λ h. not_before_self (h (omega arith) (λ e. omega arith)) })

-- at the largest values: the cells, and the most firings
pub largest : (cells most_events ∷ firings_bound most_events most_symbols most_pairs ∷ []) ≡ 4656 ∷ 37750784 ∷ []
unfolding cells firings_bound
largest = refl
