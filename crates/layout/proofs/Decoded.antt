-- Laws of the decoded grammar: its counts and rules are where the bytes have them.
-- Assumes nothing.
use Prim.Native.Nat.{ℕ, zero, suc, ◌+◌, ◌-◌, ◌≤◌, ◌<◌}
use native.Mathlib.Nat.{add-zero, one-mul, zero-mul, not-suc-le-zero, le_of_suc-le-suc}
use native.Mathlib.Decide.{dec_lt}
use native.Mathlib.Omega.{arith}
use mathlib.Core.Path.{◌≡◌, refl, sym, ap, ◌∙◌}
use mathlib.Core.Logic.{◌≢◌}
use mathlib.Core.List.{List, map}
use lib.ListN.{length, get_or, length-map, get_or-eq_default}
use Rattle.bits.proofs.Truths.{same_eq, same_other, same_lt}
use Rattle.derivation.specs.Grammar.{EventRule, PairRule, event_rule_count, pair_rule_count, rule_total, event_rule, pair_rule, rule_symbol}
use Rattle.derivation.proofs.Sound.{leaf_symbol, pair_symbol}
use Rattle.layout.specs.Layout.{header_bytes, byte_in, word_in, version_in, quiet_in, first_rule_at, symbols_in, leaves_in, pairs_in, counting, rule_in, event_rule_at, pair_rule_at, decode}
use Rattle.layout.specs.Present.{HasRule, HasPair}

length_counting : (i n : ℕ) → length (counting i n) ≡ n
unfolding counting
length_counting i zero = refl
length_counting i (suc n) = ap suc (length_counting (suc i) n)

-- element r of a list that is one thing for each number from i up
get_d_counting : {X : Type 0} (f : ℕ → X) (i n r : ℕ) (d : X) → r < n → get_or (map f (counting i n)) r d ≡ f (i + r)
unfolding counting
get_d_counting f i zero r d h = absurd (not-suc-le-zero h)
get_d_counting f i (suc n) zero d h = ap f (sym (add-zero i))
get_d_counting f i (suc n) (suc r) d h = get_d_counting f (suc i) n r d (le_of_suc-le-suc h) ∙ ap f (omega arith)

module _ (b : List ℕ) where
  pub leaf_count : event_rule_count (decode b) ≡ leaves_in b
  unfolding decode
  leaf_count = length-map (counting 0 (leaves_in b)) (event_rule_at b) ∙ length_counting 0 (leaves_in b)

  pub pair_count : pair_rule_count (decode b) ≡ pairs_in b
  unfolding decode
  pair_count = length-map (counting (leaves_in b) (pairs_in b)) (pair_rule_at b) ∙ length_counting (leaves_in b) (pairs_in b)

  pub symbol_count : (decode b).symbols ≡ symbols_in b
  unfolding decode
  symbol_count = refl

  pub quiet_flag : (decode b).quiet ≡ quiet_in b
  unfolding decode
  quiet_flag = refl

  -- version 2 has the flag before its rules, and no other version has one
  module _ (two : version_in b ≡ 2) where
    pub rules_behind : first_rule_at b ≡ header_bytes + 1
    unfolding first_rule_at
    rules_behind = omega (arith, same_eq (version_in b) 2 two)

    pub quiet_byte : (decode b).quiet ≡ byte_in b header_bytes
    unfolding decode quiet_in
    quiet_byte = rw (same_eq (version_in b) 2 two) (one-mul (byte_in b header_bytes))

    -- a header that ends before it shows 0
    pub quiet_missing : length b ≡ header_bytes → (decode b).quiet ≡ 0
    quiet_missing e = quiet_byte ∙ get_or-eq_default b 0 {n = header_bytes} (omega arith)

  module _ (other : version_in b ≢ 2) where
    pub rules_at_once : first_rule_at b ≡ header_bytes
    unfolding first_rule_at
    rules_at_once = omega (arith, same_other (version_in b) 2 other)

    pub quiet_none : (decode b).quiet ≡ 0
    unfolding decode quiet_in
    quiet_none = rw (same_other (version_in b) 2 other) (zero-mul (byte_in b header_bytes))

  pub rules_from_low : first_rule_at b ≤ header_bytes + 1
  unfolding first_rule_at
  rules_from_low = omega (arith, same_lt (version_in b) 2)

  leaf_at_is : (r : ℕ) → r < event_rule_count (decode b) → event_rule (decode b) r ≡ event_rule_at b r
  unfolding decode
  leaf_at_is r h = get_d_counting (event_rule_at b) 0 (leaves_in b) r _ (rw leaf_count at h) ∙ ap (event_rule_at b) (omega arith)

  -- by the rule's number
  pair_at : (r : ℕ) → event_rule_count (decode b) ≤ r → r < rule_total (decode b) → pair_rule (decode b) (r - event_rule_count (decode b)) ≡ pair_rule_at b r
  unfolding decode
  pair_at r l h =
      get_d_counting (pair_rule_at b) (leaves_in b) (pairs_in b) (r - event_rule_count (decode b)) _ (omega (arith, leaf_count, pair_count))
      ∙ ap (pair_rule_at b) (omega (arith, leaf_count))

  -- a rule of an image of the right length lies within it
  pub rule_within : (r : ℕ) → HasRule b r → rule_in b r + 2 < length b
  rule_within r h = omega (arith, leaf_count, pair_count)

  -- the numbers of a rule, where its bytes stand
  pub symbol_at : (r : ℕ) → r < rule_total (decode b) → byte_in b (rule_in b r + 0) ≡ rule_symbol (decode b) r
  symbol_at r h =
      ap (byte_in b) (add-zero (rule_in b r))
      ∙ elim (dec_lt r (event_rule_count (decode b))) [
        | yes l ↦ sym (leaf_symbol (decode b) r l ∙ ap (λ (q : EventRule). q.symbol) (leaf_at_is r l))
        | no l ↦
            let m : event_rule_count (decode b) ≤ r = omega arith in
            sym (pair_symbol (decode b) r m h ∙ ap (λ (q : PairRule). q.symbol) (pair_at r m h))
      ]

  pub event_at : (r : ℕ) → r < event_rule_count (decode b) → word_in b (rule_in b r + 1) ≡ (event_rule (decode b) r).event
  event_at r h = sym (ap (λ (q : EventRule). q.event) (leaf_at_is r h))

  pub left_at : (r : ℕ) → HasPair b r → byte_in b (rule_in b r + 1) ≡ (pair_rule (decode b) (r - event_rule_count (decode b))).left
  left_at r h = sym (ap (λ (q : PairRule). q.left) (pair_at r h.from h.below))

  pub right_at : (r : ℕ) → HasPair b r → byte_in b (rule_in b r + 2) ≡ (pair_rule (decode b) (r - event_rule_count (decode b))).right
  right_at r h = sym (ap (λ (q : PairRule). q.right) (pair_at r h.from h.below))
