-- The table cell by cell and column by column: what is done stays done, and in the end every count stands.
-- Assumes nothing.
use Prim.Native.Nat.{ℕ, ◌+◌, ◌≤◌, ◌<◌}
use native.Mathlib.Nat.{le_refl}
use native.Mathlib.Omega.{arith}
use native.Mathlib.Decide.{ℕ_discrete}
use mathlib.Core.Path.{◌≡◌, sym, ap, ◌∙◌}
use mathlib.Core.Logic.{⊎_elim}
use mathlib.Core.List.{List}
use lib.ListN.{length, get_or}
use lib.Seq.{ext_get_or}
use Rattle.bits.proofs.Truths.{lt_or_ge}
use Rattle.derivation.specs.Grammar.{Grammar, event_rule_count, pair_rule_count}
use Rattle.derivation.specs.Derivations.{readings}
use Rattle.derivation.specs.Sound.{Sound}
use Rattle.derivation.proofs.Readings.{count_events}
use Rattle.table.specs.Table.{held, slot_of, table_words, Filled}
use Rattle.table.specs.Fill.{leaf_adds, pair_adds, Summed, CellDone, Done, CountsIn}
use Rattle.table.proofs.Slots.{slot_word, slot_before, slot_after, slot_of_is}
use Rattle.bits.specs.Frame.{Framed}
use Rattle.bits.proofs.Frames.{framed_on}
use Rattle.table.proofs.Adds.{leaf_counted, ready_done, all_counted}

-- ---- one cell
-- what the cell's words are worked out from is outside it
pub done_framed : (g : Grammar) (w : List ℕ) (i k : ℕ) (old new : List ℕ) → i < k → Framed old new (slot_of g.symbols 0 i k) g.symbols → Done g w old (i + 1) k → Done g w new (i + 1) k
done_framed g w i k old new lt f d = record {
  at = λ A a b s l h low. elim (ℕ_discrete b k) [
    | yes e ↦ f.after _ (rw e (slot_after g.symbols A i a k (let m = low e in omega arith))) ∙ d.at A a b s l h low
    | no n ↦ f.before _ (slot_before g.symbols A a b i k s l (omega arith)) ∙ d.at A a b s l h low
  ];
}

pub leaf_cell : (g : Grammar) (w : List ℕ) (i k base : ℕ) (o a b : List ℕ) → i < length w → k ≡ i + 1 → base ≡ slot_of g.symbols 0 i k → Framed o a base g.symbols
    → Summed (leaf_adds g (get_or w i 0)) (event_rule_count g) base g.symbols a b → CellDone g w i k o b
leaf_cell g w i k base o a b h e f x y = record {
  frame = rw f at (framed_on o a b base g.symbols x y.frame);
  word = λ A s. rw (← (slot_word g.symbols A i k), ← f) (y.word A s ∙ rw e (ap held (leaf_counted g w A i h)));
}

pub pair_cell : (g : Grammar) → Sound g → (w : List ℕ) (i k base : ℕ) (o a b : List ℕ) → i + 1 < k → base ≡ slot_of g.symbols 0 i k → Framed o a base g.symbols
    → Done g w o (i + 1) k → Summed (pair_adds g a i k) (pair_rule_count g) base g.symbols a b → CellDone g w i k o b
pair_cell g ok w i k base o a b h f x d s =
    let x' = rw f at x in
    let y = rw f at s in
    let r = ready_done g w a i k (done_framed g w i k o a (omega arith) x' d) in
    record {
      frame = framed_on o a b _ _ x' y.frame;
      word = λ A s. rw (← (slot_word g.symbols A i k)) (y.word A s ∙ all_counted g ok w a i k r A h);
    }

-- ---- one column
module _ (g : Grammar) (w : List ℕ) where
  pub done_on : (i k : ℕ) (old new : List ℕ) → i < k → Done g w old (i + 1) k → CellDone g w i k old new → Done g w new i k
  done_on i k old new lt d c = record {
    at = λ A a b s l h low. elim (ℕ_discrete b k) [
      | yes e ↦ elim (ℕ_discrete a i) [
        | yes f ↦ rw (e, f) (c.word A s)
        | no n ↦ let m = low e in (done_framed g w i k old new lt c.frame d).at A a b s l h (λ _. omega arith)
      ]
      | no n ↦ (done_framed g w i k old new lt c.frame d).at A a b s l h (λ e. absurd (n e))
    ];
  }

  -- ---- the whole
  pub counts_in : (old t : List ℕ) → table_words g.symbols (length w) ≤ length old → Filled g w old t → CountsIn g w t
  counts_in old t h f = record { fits = rw f.frame.long h; at = f.counts }

  -- the word for the whole record is the number of its readings
  pub total_is : (t : List ℕ) → CountsIn g w t → 0 < g.symbols → 0 < length w → get_or t (slot_of g.symbols 0 0 (length w)) 0 ≡ held (length (readings g w))
  total_is t c pos some = c.at 0 0 (length w) pos some (le_refl (length w)) ∙ ap held (sym (count_events g w some))

  -- two tables that are filled from one are the same
  pub filled_only : (old a b : List ℕ) → 0 < g.symbols → Filled g w old a → Filled g w old b → a ≡ b
  filled_only old a b pos f h = ext_get_or 0 a b (f.frame.long ∙ sym h.frame.long) (λ x _. ⊎_elim
      (λ (l : x < table_words g.symbols (length w)).
      let s = slot_of_is g.symbols (length w) x pos l in
      rw (← s.is) (f.counts s.A s.i s.k s.symbol s.low s.high ∙ sym (h.counts s.A s.i s.k s.symbol s.low s.high)))
      (λ (l : table_words g.symbols (length w) ≤ x). f.frame.after x (omega arith) ∙ sym (h.frame.after x (omega arith)))
      (lt_or_ge x (table_words g.symbols (length w))))
