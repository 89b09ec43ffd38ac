-- From a place in what the rules add to the derivation with that number.
-- Assumes nothing.
use Prim.Native.Nat.{ℕ, ◌+◌, ◌-◌, ◌*◌, ◌/◌, ◌%◌, ◌≤◌, ◌<◌, min}
use native.Mathlib.Omega.{arith}
use native.Mathlib.Decide.{ℕ_discrete}
use native.Mathlib.Nat.{mul-one, mul-zero, eq-zero-or-pos, div-lt_iff_lt-mul, mod-lt, div-le_self, mod-le, lt_of_le_of_lt, div-add-mod', le_of_lt}
use mathlib.Core.Path.{◌≡◌, refl, sym, ap, ◌∙◌}
use mathlib.Core.Logic.{⊎_elim}
use mathlib.Core.Bool.{Bool, true, false}
use mathlib.Core.List.{List}
use lib.ListN.{length, get_or}
use lib.Dec.{lit<}
use Rattle.bits.specs.Sum.{sum, between}
use Rattle.bits.specs.Truth.{Decides}
use Rattle.bits.proofs.Truths.{holds, fails, same_eq}
use Rattle.bits.proofs.Sums.{sum_cong, sum_more, between_none, between_more}
use Rattle.derivation.specs.Grammar.{Grammar, event_rule_count, pair_rule_count, event_rule, pair_rule}
use Rattle.derivation.specs.Tree.{leaf}
use Rattle.derivation.specs.Derivations.{derivations, count}
use Rattle.derivation.specs.Numbering.{none}
use Rattle.derivation.proofs.Counts.{by_event, by_split, by_pair}
use Rattle.derivation.proofs.Places.{leaf_at_is, node_at}
use Rattle.derivation.specs.Sound.{Sound}
use Rattle.lookup.specs.declared.Pair.{Pair}
use Rattle.lookup.specs.Rule.{Turns, PairIs}
use Rattle.table.specs.Table.{limit, held}
use Rattle.table.specs.Fill.{leaf_adds, split_adds, pair_adds}
use Rattle.table.proofs.Capped.{cap_div, cap_mod}
use Rattle.table.proofs.Held.{exact, below, held_between}
use Rattle.table.proofs.Cells.{leaf_adds_is, leaf_other, leaf_skips, pair_adds_is, pair_other}
use Rattle.table.proofs.Adds.{leaf_counted, Ready, split_counted, pairs_counted, all_counted}
use Rattle.unrank.specs.declared.choose.Choice.{Choice}
use Rattle.unrank.specs.Choice.{Chosen, ChosenLeaf, Planned}

-- ---- over one event
pub leaf_chosen : (g : Grammar) (w : List ℕ) (A i n r : ℕ) → i < length w → ChosenLeaf g (get_or w i 0) A n r → get_or (derivations g w A i (i + 1)) n none ≡ leaf r (i + 1)
unfolding leaf_adds by_event
leaf_chosen g w A i n r h c =
    ap (λ (m : ℕ). get_or (derivations g w A i (i + 1)) m none) (c.place ∙ sum_cong r (leaf_adds g (get_or w i 0) A) (by_event g w A i) (λ s l. refl))
    ∙ leaf_at_is g w A i r h c.known c.symbol c.event

-- ---- a place below a product, with the right factor held at a limit M
module _ (M : ℕ) (pos : 0 < M) (a b m : ℕ) (h : m < a * b) (s : m < M) where
  some : 0 < b
  some = ⊎_elim (λ (e : b ≡ 0). absurd (omega (arith, rw e at h, mul-zero a))) (λ (p : 0 < b). p) (eq-zero-or-pos b)

  pub held_some : 0 < min M b
  held_some = let p = some in omega arith

  left_place : m / min M b < a
  left_place = rw (cap_div M pos m b s) ((div-lt_iff_lt-mul some).1 h)

  right_place : m % min M b < b
  right_place = rw (cap_mod M pos m b s) (mod-lt m some)

  whole : m ≡ m / min M b * b + m % min M b
  whole = rw (cap_div M pos m b s, cap_mod M pos m b s) (sym (div-add-mod' m b))

-- ---- over more
module _ (g : Grammar) (ok : Sound g) (w t : List ℕ) (A i k n : ℕ) (r : Ready g w t i k) (few : n < limit) where
  pub chosen_some : i + 1 < k → n < count g w A i k → n < sum (pair_rule_count g) (pair_adds g t i k A)
  chosen_some h l = below (count g w A i k) _ n (sym (all_counted g ok w t i k r A h)) few l

  module _ (d : Choice) (c : Chosen g t A i k n d) where
    abbrev q : ℕ
    q = d.pair

    abbrev j : ℕ
    j = d.share.split

    abbrev m : ℕ
    m = d.share.rest

    chosen_small : m < limit
    chosen_small = omega (arith, c.place, c.split.place)

    chosen_rule : sum q (pair_adds g t i k A) ≡ sum q (by_pair g w A i k)
    chosen_rule = exact _ _ (pairs_counted g ok w t i k r A q (le_of_lt c.known)) (omega (arith, c.place))

    chosen_split : between i j (split_adds t g.symbols (pair_rule g q).left (pair_rule g q).right i k) ≡ between i j (by_split g w A i k q)
    chosen_split = exact _ _
        (held_between i j _ _ (λ x l h. split_counted g ok w t i k r A q x c.known c.symbol l (omega (arith, h, c.split.before))))
        (omega (arith, c.place, c.split.place))

    pub chosen_in : m < count g w (pair_rule g q).left i j * count g w (pair_rule g q).right j k
    unfolding by_split
    chosen_in =
        let b = below _ (by_split g w A i k q j) m (split_counted g ok w t i k r A q j c.known c.symbol c.split.after c.split.before) chosen_small c.split.inside in
        rw (same_eq (pair_rule g q).symbol A c.symbol, mul-one) at b

    chosen_place : n ≡ sum q (by_pair g w A i k) + (between i j (by_split g w A i k q) + m)
    chosen_place = c.place ∙ rw (c.split.place, chosen_rule, chosen_split)

    -- x is the word of the right symbol
    module _ (x : ℕ) (e : x ≡ held (count g w (pair_rule g q).right j k)) where
      pub planned_some : 0 < x
      planned_some = rw e (held_some limit (lit< tt) _ _ m chosen_in chosen_small)

      pub planned : event_rule_count g + q < 65536
          → Planned g w A i k n (record { rule = event_rule_count g + q; split = j; left = record { symbol = (pair_rule g q).left; number = m / x }; right = record { symbol = (pair_rule g q).right; number = m % x } })
      planned fit =
          let B = (pair_rule g q).left in
          let C = (pair_rule g q).right in
          let R : ℕ = count g w C j k in
          let hx = left_place limit (lit< tt) (count g w B i j) R m chosen_in chosen_small in
          let hy = right_place limit (lit< tt) (count g w B i j) R m chosen_in chosen_small in
          record {
            parts = record {
              after = c.split.after;
              before = c.split.before;
              word = fit;
              left_some = rw e hx;
              left_small = lt_of_le_of_lt (div-le_self m x) chosen_small;
              right_some = rw e hy;
              right_small = lt_of_le_of_lt (mod-le m x) chosen_small;
            };
            root = rw e (ap (λ (y : ℕ). get_or (derivations g w A i k) y none)
                (chosen_place ∙ ap (λ (y : ℕ). sum q (by_pair g w A i k) + (between i j (by_split g w A i k q) + y)) (whole limit (lit< tt) (count g w B i j) R m chosen_in chosen_small))
                ∙ node_at g w A i k q j c.known c.split.after c.split.before (m / held R) (m % held R) c.symbol hx hy);
          }

-- ---- one turn of the loops that choose
module _ (g : Grammar) (t : List ℕ) (A i k n q rest : ℕ) (h : n ≡ sum q (pair_adds g t i k A) + rest) (N : ℕ) (v : Pair) (en : N ≡ g.symbols) (p : PairIs g q v) where
  pub rule_past : (d : ℕ) → v.symbol ≡ A → rest ≡ between i k (split_adds t N v.left v.right i k) + d → n ≡ sum (q + 1) (pair_adds g t i k A) + d
  rule_past d e l =
      let m = rw (en, p.left, p.right) at l in
      omega (arith, sum_more q (pair_adds g t i k A), pair_adds_is g t i k q A (sym p.symbol ∙ e))

  pub rule_skip : (v.symbol ≡ A → ⊥) → n ≡ sum (q + 1) (pair_adds g t i k A) + rest
  rule_skip e = omega (arith, sum_more q (pair_adds g t i k A), pair_other g t i k q A (λ z. e (p.symbol ∙ z)))

module _ (g : Grammar) (x A n r rest : ℕ) (h : n ≡ sum r (leaf_adds g x A) + rest) where
  pub leaf_past : (ok : Bool) → Decides ok (Turns g r A x) → ok ≡ true → (rest ≡ 0 → ⊥) → n ≡ sum (r + 1) (leaf_adds g x A) + (rest - 1)
  leaf_past ok d e z =
      let y = holds (Turns g r A x) ok e d in
      omega (arith, sum_more r (leaf_adds g x A), rw y.symbol at (leaf_adds_is g x r y.event))

  pub leaf_skip : (ok : Bool) → Decides ok (Turns g r A x) → ok ≡ false → n ≡ sum (r + 1) (leaf_adds g x A) + rest
  leaf_skip ok d e = omega (arith, sum_more r (leaf_adds g x A), none_added (fails (Turns g r A x) ok e d))
    where
      none_added : (Turns g r A x → ⊥) → leaf_adds g x A r ≡ 0
      none_added f = elim (ℕ_discrete (event_rule g r).symbol A) [
        | yes a ↦ leaf_skips g x r (λ b. f (record { symbol = a; event = b })) A
        | no a ↦ leaf_other g x r A a
      ]

pub leaf_some : (g : Grammar) (w : List ℕ) (A i k n x : ℕ) → k ≡ i + 1 → x ≡ get_or w i 0 → i < length w → n < count g w A i k → n < sum (event_rule_count g) (leaf_adds g x A)
leaf_some g w A i k n x ek ex h l = rw (ex, leaf_counted g w A i h) (rw ek at l)

pub split_start : (f : ℕ → ℕ) (i n : ℕ) → n ≡ between i (i + 1) f + n
split_start f i n = omega (arith, between_none i (i + 1) f (omega arith))

pub split_past : (f : ℕ → ℕ) (i j n rest share : ℕ) → i < j → n ≡ between i j f + rest → share ≡ f j → share ≤ rest → n ≡ between i (j + 1) f + (rest - share)
split_past f i j n rest share l h e s = omega (arith, between_more i j f l)
