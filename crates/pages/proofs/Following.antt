-- Behind the last derivation by a rule and a split stands the first by the next rule and split that have one.
-- Assumes nothing.
use Prim.Native.Nat.{ℕ, ◌+◌, ◌-◌, ◌*◌, ◌≤◌, ◌<◌}
use native.Mathlib.Nat.{zero-mul, mul-zero, mul-one, suc-mul, add_assoc, le_of_lt, eq-zero-or-pos}
use native.Mathlib.Numerals.{add-one}
use native.Mathlib.Decide.{ℕ_discrete}
use native.Mathlib.Omega.{arith}
use mathlib.Core.Path.{◌≡◌, refl, sym, ap, ◌∙◌}
use mathlib.Core.Logic.{◌≢◌, ⊎_elim}
use Rattle.std.proofs.Common.{Some, None}
use mathlib.Core.List.{List}
use lib.ListN.{get_or}
use lib.Dec.{lit<}
use Rattle.bits.specs.Sum.{sum, between}
use Rattle.bits.proofs.Truths.{same_eq, same_other}
use Rattle.bits.proofs.Sums.{sum_more, sum_zero, sum_skip, between_none, between_more}
use Rattle.derivation.specs.Grammar.{Grammar, event_rule_count, pair_rule_count, pair_rule}
use Rattle.derivation.specs.Sound.{Sound}
use Rattle.derivation.specs.Tree.{node}
use Rattle.derivation.specs.Derivations.{derivations, count}
use Rattle.derivation.specs.Numbering.{none}
use Rattle.derivation.proofs.Sound.{symbols_rise}
use Rattle.derivation.proofs.Counts.{by_split, by_pair, count_more}
use Rattle.derivation.proofs.Numbering.{derivation_once}
use Rattle.derivation.proofs.Places.{node_at, node_room}
use Rattle.table.proofs.Adds.{Ready, split_counted}
use Rattle.unrank.specs.Choice.{Planned}
use Rattle.lookup.specs.declared.Pair.{Pair}
use Rattle.lookup.specs.Rule.{PairIs}
use Rattle.pages.specs.Step.{Skipped, Found, SplitIs, LastBy, first_by, NextIs}

-- ---- sums that zeros do not change
between_skip : (i from to : ℕ) (f : ℕ → ℕ) → i < from → from ≤ to → ((j : ℕ) → from ≤ j → j < to → f j ≡ 0) → between i to f ≡ between i from f
unfolding between
between_skip i from to f a b z =
    let e : to - (i + 1) ≡ (from - (i + 1)) + (to - from) = omega arith in
    rw e (sum_skip (from - (i + 1)) (to - from) (λ x. f (i + 1 + x)) (λ x l. z (i + 1 + (from - (i + 1) + x)) (omega arith) (omega arith)))

sum_still : (m n : ℕ) (f : ℕ → ℕ) → m ≤ n → ((x : ℕ) → m ≤ x → x < n → f x ≡ 0) → sum n f ≡ sum m f
sum_still m n f l z =
    let e : n ≡ m + (n - m) = omega arith in
    rw e (sum_skip m (n - m) f (λ x h. z (m + x) (omega arith) (omega arith)))

module _ (g : Grammar) (w : List ℕ) (A i k : ℕ) where
  -- how many stand before those by pair rule b and the split j
  abbrev pub start : ℕ → ℕ → ℕ
  start b j = sum b (by_pair g w A i k) + between i j (by_split g w A i k b)

  -- ---- a derivation's place from its root and parts
  module _ (b j : ℕ) (rule : b < pair_rule_count g) (symbol : (pair_rule g b).symbol ≡ A) (after : i < j) (before : j < k) where
    abbrev B : ℕ
    B = (pair_rule g b).left

    abbrev C : ℕ
    C = (pair_rule g b).right

    pub placed : (q x y : ℕ) → q < count g w A i k → x < count g w B i j → y < count g w C j k
        → get_or (derivations g w A i k) q none ≡ node (event_rule_count g + b) j (get_or (derivations g w B i j) x none) (get_or (derivations g w C j k) y none)
        → q ≡ start b j + (x * count g w C j k + y)
    unfolding count
    placed q x y l hx hy e =
        derivation_once g w A i k q _ l (node_room g w A i k b j rule after before x y symbol hx hy)
        (e ∙ sym (node_at g w A i k b j rule after before x y symbol hx hy))
        ∙ sym (add_assoc _ _ _)

    one_share : by_split g w A i k b j ≡ count g w B i j * count g w C j k
    unfolding by_split
    one_share = rw (same_eq (pair_rule g b).symbol A symbol) (mul-one _)

    pub last_place : (q : ℕ) → LastBy g w A i k b j q → q + 1 ≡ start b (j + 1)
    last_place q l =
        let p = placed q l.x l.y l.below (omega (arith, l.left)) (omega (arith, l.right)) l.tree in
        let h : count g w B i j * count g w C j k ≡ l.x * count g w C j k + count g w C j k = rw (sym l.left, add-one) (suc-mul l.x (count g w C j k)) in
        omega (arith, p, h, l.right, one_share, between_more i j (by_split g w A i k b) after)

    -- ---- the first by a rule and a split
    pub first_planned : (P : ℕ) → P ≡ start b j → 0 < by_split g w A i k b j → event_rule_count g + b < 65536
        → (P < count g w A i k) × Planned g w A i k P (first_by (event_rule_count g + b) j B C)
    first_planned P e some word =
        let parts = factors (count g w B i j) (count g w C j k) (rw one_share at some) in
        let at : P ≡ sum b (by_pair g w A i k) + (between i j (by_split g w A i k b) + (0 * count g w C j k + 0)) = rw zero-mul (omega arith) in (
          rw at (node_room g w A i k b j rule after before 0 0 symbol parts.0 parts.1),
          record {
            parts = record { after = after; before = before; word = word; left_some = parts.0; left_small = lit< tt; right_some = parts.1; right_small = lit< tt };
            root = rw at (node_at g w A i k b j rule after before 0 0 symbol parts.0 parts.1);
          },
        )
      where
        factors : (m n : ℕ) → 0 < m * n → (0 < m) × (0 < n)
        factors m n h = (
          ⊎_elim (λ (z : m ≡ 0). absurd (omega (arith, rw z at h, zero-mul n))) (λ (l : 0 < m). l) (eq-zero-or-pos m),
          ⊎_elim (λ (z : n ≡ 0). absurd (omega (arith, rw z at h, mul-zero m))) (λ (l : 0 < n). l) (eq-zero-or-pos n),
        )

-- ---- along the splits of a rule, and along the rules
module _ (g : Grammar) (ok : Sound g) (w t : List ℕ) (A i k : ℕ) (r : Ready g w t i k) where
  module _ (c : ℕ) (rule : c < pair_rule_count g) (symbol : (pair_rule g c).symbol ≡ A) (from : ℕ) (after : i < from) where
    skips : (to : ℕ) → from ≤ to → to ≤ k → Skipped t g.symbols (pair_rule g c).left (pair_rule g c).right i k from to
        → start g w A i k c to ≡ start g w A i k c from
    skips to l h z =
        ap (λ (n : ℕ). sum c (by_pair g w A i k) + n)
        (between_skip i from to (by_split g w A i k c) after l
        (λ j a b. omega (arith, z.nothing j a b, split_counted g ok w t i k r A c j rule symbol (omega arith) (omega arith))))

    pub rule_gives : (P j : ℕ) → P ≡ start g w A i k c from → Found t g.symbols (pair_rule g c).left (pair_rule g c).right i k from j → event_rule_count g + c < 65536
        → (P < count g w A i k) × Planned g w A i k P (first_by (event_rule_count g + c) j (pair_rule g c).left (pair_rule g c).right)
    rule_gives P j e f word =
        let a = f.after in
        let b = f.before in
        first_planned g w A i k c j rule symbol (omega arith) b P
        (e ∙ sym (skips j a (omega arith) f.skipped))
        (omega (arith, f.some, split_counted g ok w t i k r A c j rule symbol (omega arith) b)) word

    pub rule_over : from ≤ k → Skipped t g.symbols (pair_rule g c).left (pair_rule g c).right i k from k
        → start g w A i k (c + 1) (i + 1) ≡ start g w A i k c from
    unfolding by_pair
    rule_over l z =
        let e = skips k l (omega arith) z in
        omega (arith, e, sum_more c (by_pair g w A i k), between_none i (i + 1) (by_split g w A i k (c + 1)) (omega arith))

  -- behind the last rule
  pub rules_over : (P : ℕ) → i + 1 < k → P ≡ start g w A i k (pair_rule_count g) (i + 1) → P ≡ count g w A i k
  rules_over P h e = omega (arith, between_none i (i + 1) (by_split g w A i k (pair_rule_count g)) (omega arith), count_more g w A i k h)

  -- rules rise, so behind a rule of another symbol than the one before it there is none of that
  other_gives_none : (d : ℕ) → (pair_rule g d).symbol ≢ A → by_pair g w A i k d ≡ 0
  unfolding by_pair by_split between
  other_gives_none d n = sum_zero _ _ (λ x y. rw (same_other (pair_rule g d).symbol A n) (mul-zero _))

  pub symbol_over : (P b c : ℕ) → i + 1 < k → b < c → c < pair_rule_count g → (pair_rule g b).symbol ≡ A → (pair_rule g c).symbol ≢ A
      → P ≡ start g w A i k c (i + 1) → P ≡ count g w A i k
  symbol_over P b c h l m eb ec e =
      omega (
        arith,
        between_none i (i + 1) (by_split g w A i k c) (omega arith),
        count_more g w A i k h,
        sum_still c (pair_rule_count g) (by_pair g w A i k) (le_of_lt m) (λ d a z. other_gives_none d (other d a z)),
      )
    where
      other : (d : ℕ) → c ≤ d → d < pair_rule_count g → (pair_rule g d).symbol ≢ A
      other d a z f = elim (ℕ_discrete c d) [
        | yes y ↦ ec (rw y f)
        | no y ↦ ec (omega (arith, symbols_rise g ok b c l m, symbols_rise g ok c d (omega arith) z))
      ]

-- ---- the walk over the rules from b on: `from` is the split in rule c from which on it has not looked yet
pub record Walked (g : Grammar) (w : List ℕ) (A i k b j c from : ℕ) : Type 0 where
  pub low : b ≤ c
  pub high : c ≤ pair_rule_count g
  pub after : i < from
  pub before : from ≤ k
  pub later : b < c → from ≡ i + 1
  pub place : start g w A i k c from ≡ start g w A i k b (j + 1)

module _ (g : Grammar) (ok : Sound g) (w t : List ℕ) (A i k : ℕ) (r : Ready g w t i k) (b j : ℕ)
    (rule : b < pair_rule_count g) (symbol : (pair_rule g b).symbol ≡ A) (after : i < j) (before : j < k) where
  -- what it comes to is behind the last by rule b and split j
  ends : start g w A i k b (j + 1) ≡ count g w A i k → NextIs g w A i k b j None
  ends h = record { behind = λ q l. last_place g w A i k b j rule symbol after before q l ∙ h }

  module _ (c from : ℕ) (v : Walked g w A i k b j c from) where
    pub walked_out : pair_rule_count g ≤ c → NextIs g w A i k b j None
    walked_out h =
        let c≡ : c ≡ pair_rule_count g = omega (arith, v.high) in
        let f≡ = v.later (omega arith) in
        ends (rules_over g ok w t A i k r _ (omega arith) (sym v.place ∙ rw (c≡, f≡)))

    -- rule c is p
    module _ (N : ℕ) (p : Pair) (en : N ≡ g.symbols) (is : PairIs g c p) (h : c < pair_rule_count g) where
      pub walked_other : (p.symbol ≡ A → ⊥) → NextIs g w A i k b j None
      walked_other o =
          let other : (pair_rule g c).symbol ≢ A = λ z. o (is.symbol ∙ z) in
          let l : b < c = elim (ℕ_discrete b c) [ yes y ↦ absurd (other (rw (sym y) symbol)) | no y ↦ omega (arith, v.low) ] in
          ends (symbol_over g ok w t A i k r _ b c (omega arith) l h symbol other (sym v.place ∙ rw (v.later l)))

      module _ (own : p.symbol ≡ A) where
        own_symbol : (pair_rule g c).symbol ≡ A
        own_symbol = sym is.symbol ∙ own

        pub walked_on : SplitIs t N p.left p.right i k from None → Walked g w A i k b j (c + 1) (i + 1)
        walked_on d =
            let z = rw (en, is.left, is.right) at d in
            record {
              low = omega (arith, v.low);
              high = omega arith;
              after = omega arith;
              before = omega arith;
              later = λ _. refl;
              place = rule_over g ok w t A i k r c h own_symbol from v.after v.before z ∙ v.place;
            }

        pub walked_found : (split : ℕ) → SplitIs t N p.left p.right i k from (Some split) → event_rule_count g + c < 65536
            → NextIs g w A i k b j (Some (first_by (event_rule_count g + c) split p.left p.right))
        walked_found split d word =
            let z = rw (en, is.left, is.right) at d in
            record {
              behind = λ q l.
                  rw (is.left, is.right)
                  (rule_gives g ok w t A i k r c h own_symbol from v.after (q + 1) split (last_place g w A i k b j rule symbol after before q l ∙ sym v.place) z word);
            }
