-- A derivation's number from its root and its parts' numbers, and a reading's. Numbers held at the limit add up to a held number, so what
-- is below the limit is exact.
-- Assumes nothing.
use Prim.Native.Nat.{ℕ, ◌+◌, ◌-◌, ◌*◌, ◌≤◌, ◌<◌}
use native.Mathlib.Nat.{le_of_lt}
use native.Mathlib.Omega.{arith}
use mathlib.Core.Path.{◌≡◌, refl, sym, ap, ◌∙◌}
use mathlib.Core.List.{List}
use lib.ListN.{length, get_or}
use Rattle.bits.specs.Sum.{sum, between}
use Rattle.derivation.specs.Grammar.{Grammar, event_rule_count, pair_rule_count, pair_rule}
use Rattle.derivation.specs.Sound.{Sound}
use Rattle.derivation.specs.Tree.{Tree, leaf, node, Derives, script, script_word_count, Spells}
use Rattle.derivation.specs.Reading.{IsReading}
use Rattle.derivation.specs.Derivations.{derivations, NumberOf, RankOf, count}
use Rattle.derivation.specs.Numbering.{none}
use Rattle.derivation.proofs.Counts.{by_split, by_pair, count_of}
use Rattle.derivation.proofs.Places.{leaf_first, node_at, node_room}
use Rattle.derivation.proofs.Readings.{count_events, count_quiet, reading_at}
use Rattle.derivation.proofs.Numbering.{number_of}
use Rattle.derivation.proofs.Sound.{pair_fits_at}
use Rattle.table.specs.Table.{held}
use Rattle.table.specs.Fill.{CountsIn}
use Rattle.table.proofs.Held.{held_mul, held_once, held_plus, held_between}
use Rattle.table.proofs.Adds.{ready_in, split_counted, pairs_counted}
use Rattle.follow.proofs.Spelling.{left_words, right_words, node_script}
use Rattle.rank.specs.Rank.{HeldOf, place_of}

module _ (g : Grammar) (o : Sound g) (w : List ℕ) where
  -- ---- over one event
  pub leaf_ranked : (A i k : ℕ) (s : List ℕ) → k ≡ i + 1 → Spells g w A i k s → HeldOf (RankOf g w A i k s) 0
  unfolding count
  leaf_ranked A i k s e p = record { number = 0; is = record { below = count_of g w A i k (p.tree, p.derives); spelt = go p.tree p.derives ∙ p.spelt }; shown = refl }
    where
      go : (t : Tree) → Derives g w A i k t → script (get_or (derivations g w A i k) 0 none) ≡ script t
      go (leaf r x) d =
          ap (λ (m : ℕ). script (get_or (derivations g w A i m) 0 none)) e
          ∙ ap script (leaf_first g w A i r d.inside d.rule d.symbol d.event o ∙ ap (leaf r) (sym d.place))
      go (node r j t u) d = absurd (omega (arith, d.0.after, d.0.before))

  -- ---- over more, by pair rule b and the split j
  module _ (t : List ℕ) (c : CountsIn g w t) (A i k b j : ℕ) (inside : k ≤ length w)
      (rule : b < pair_rule_count g) (symbol : (pair_rule g b).symbol ≡ A) (after : i < j) (before : j < k) where
    abbrev B : ℕ
    B = (pair_rule g b).left

    abbrev C : ℕ
    C = (pair_rule g b).right

    abbrev number_at : ℕ → ℕ → ℕ
    number_at x y = sum b (by_pair g w A i k) + (between i j (by_split g w A i k b) + (x * count g w C j k + y))

    place_held : (x y u v : ℕ) → u ≡ held x → v ≡ held y → held (place_of g t i k b j u v) ≡ held (number_at x y)
    unfolding place_of
    place_held x y u v eu ev =
        let r = ready_in g w t i k c inside in
        rw symbol
        (held_plus _ _ _ _ (pairs_counted g o w t i k r A b (le_of_lt rule))
        (held_plus _ _ _ _ (held_between i j _ _ (λ z l h. split_counted g o w t i k r A b z rule symbol l (omega arith)))
        (held_plus _ _ _ _ (rw (eu, c.at C j k (pair_fits_at g o b rule).right before inside) (held_mul x (count g w C j k))) (rw ev (held_once y)))))

    pub node_ranked : (s : List ℕ) → length s ≡ script_word_count (k - i) → event_rule_count g + b ≡ get_or s 0 0 → j ≡ get_or s 1 0 → (u v x : ℕ)
        → HeldOf (RankOf g w B i j (left_words (4 * (j - i)) s)) u → HeldOf (RankOf g w C j k (right_words (4 * (j - i)) s)) v
        → x ≡ held (place_of g t i k b j u v) → HeldOf (RankOf g w A i k s) x
    unfolding count
    node_ranked s l er ej u v x p q e =
        let a = p.is in
        let d = q.is in
        record {
          number = number_at p.number q.number;
          is = record {
            below = node_room g w A i k b j rule after before p.number q.number symbol a.below d.below;
            spelt = ap script (node_at g w A i k b j rule after before p.number q.number symbol a.below d.below)
                ∙ node_script g w A i k s (event_rule_count g + b) j er ej _ _ l after before a.spelt d.spelt;
          };
          shown = e ∙ place_held p.number q.number u v p.shown q.shown;
        }

  -- ---- a whole record
  pub reading_ranked : 0 < length w → (s : List ℕ) (x : ℕ) → HeldOf (RankOf g w 0 0 (length w) s) x → HeldOf (NumberOf g w s) x
  unfolding count
  reading_ranked some s x p =
      let below = rw (← (count_events g w some)) at p.is.below in
      record { number = p.number; is = record { below = below; spelt = reading_at g w some p.number below ∙ p.is.spelt }; shown = p.shown }

  pub quiet_ranked : length w ≡ 0 → (s : List ℕ) → IsReading g w s → HeldOf (NumberOf g w s) 0
  quiet_ranked empty s p =
      let q = number_of g w s p in
      record { number = q.0; is = q.1; shown = omega (arith, q.1.below, count_quiet g w empty o.range.quiet, o.range.quiet) }
