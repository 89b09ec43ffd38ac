-- The marks of a table: they show the symbols that have a derivation, which are those whose words are not 0, and a split at which one of the
-- words is 0 adds nothing.
-- Assumes nothing.
use mathlib.Core.Path.{◌≡◌, refl, sym, ap, ap₂, ◌∙◌}
use mathlib.Core.Logic.{inl, inr}
use mathlib.Core.List.{List}
use Prim.Native.Nat.{ℕ, zero, suc, ◌+◌, ◌*◌, ◌≤◌, ◌<◌, min}
use native.Mathlib.Nat.{zero-mul, mul-zero, zero-add}
use native.Mathlib.Decide.{dec_lt, dec_le}
use native.Mathlib.Omega.{arith}
use lib.ListN.{get_or}
use Rattle.bits.specs.Truth.{same}
use Rattle.bits.specs.Sum.{sum, between}
use Rattle.bits.specs.Bit.{bit}
use Rattle.bits.specs.Frame.{Framed, Zeros}
use Rattle.bits.proofs.Frames.{framed_none}
use Rattle.bits.proofs.Sums.{sum_cong, sum_zero, sum_split, sum_upto, between_cong}
use Rattle.derivation.specs.Grammar.{Grammar, pair_rule_count, pair_rule}
use Rattle.derivation.specs.Derivations.{count, known}
use Rattle.marks.specs.Mark.{stands, meetings, Apart, CommonIs}
use Rattle.marks.specs.Shown.{Lefts, Rights, Shown, CellMarked}
use Rattle.marks.proofs.Marks.{split_lt}
use Rattle.marks.proofs.Shows.{met_between, shown_step}
use Rattle.table.specs.Table.{held, slot_of}
use Rattle.table.specs.Fill.{split_adds, pair_adds, Summed, Done, Nonzero, Parts}
use Rattle.table.proofs.Slots.{slot_before, slot_after, slot_word}

some_held : (x : ℕ) → min 1 (held x) ≡ min 1 x
some_held x = omega arith

-- ---- the parts of a stretch whose shorter stretches are counted
pub parts_shown : (g : Grammar) (w t lefts rights : List ℕ) (i k : ℕ) → i < k → Done g w t (i + 1) k
    → Lefts g.symbols (known g w) lefts (i + 1) k → Rights g.symbols (known g w) rights (i + 1) k → Parts t g.symbols lefts rights i k
unfolding known
parts_shown g w t lefts rights i k inside d rows cols = record {
  few = rows.few;
  symbols = rows.symbols;
  room = cols.room;
  told_left = rows.told;
  told_right = cols.told;
  inside = λ C j s h e. elim (dec_lt j (i + 1)) [
    | yes l ↦ absurd (omega (arith, cols.outside j C h (inl l) s))
    | no l ↦ elim (dec_le k j) [ yes o ↦ absurd (omega (arith, cols.outside j C h (inr o) s)) | no o ↦ (omega arith, omega arith) ]
  ];
  met = λ B C b c G. met_between g.symbols (known g w) lefts rights i k inside rows cols B C b c G
      ∙ between_cong i k _ _ (λ j l h. ap₂ (λ (x y : ℕ). x * y * G j) (word B i j b l (omega arith) (λ e. omega arith)) (word C j k c h (omega arith) (λ e. omega arith)));
}
  where
    word : (A a b : ℕ) → A < g.symbols → a < b → b ≤ k → (b ≡ k → i + 1 ≤ a) → min 1 (count g w A a b) ≡ min 1 (get_or t (slot_of g.symbols A a b) 0)
    word A a b s l h low = sym (ap (min 1) (d.at A a b s l h low) ∙ some_held _)

-- what stands outside the cell is as it was
pub parts_framed : (old new : List ℕ) (N : ℕ) (lefts rights : List ℕ) (i k : ℕ) → Framed old new (slot_of N 0 i k) N → Parts old N lefts rights i k → Parts new N lefts rights i k
parts_framed old new N lefts rights i k f p = record {
  few = p.few;
  symbols = p.symbols;
  room = p.room;
  told_left = p.told_left;
  told_right = p.told_right;
  inside = p.inside;
  met = λ B C b c G. p.met B C b c G ∙ between_cong i k _ _ (λ j l h.
      rw (f.before _ (slot_before N B i j i k b l h), f.after _ (slot_after N C i j k l)));
}

module _ (t : List ℕ) (N : ℕ) (lefts rights : List ℕ) (i k : ℕ) (p : Parts t N lefts rights i k) (B C : ℕ) (b : B < N) (c : C < N) where
  -- a split with a word that is 0 adds nothing
  only_met : between i k (λ j. min 1 (get_or t (slot_of N B i j) 0) * min 1 (get_or t (slot_of N C j k) 0) * split_adds t N B C i k j)
      ≡ between i k (split_adds t N B C i k)
  unfolding split_adds
  only_met = between_cong i k _ _ (λ j l h. weighed (get_or t (slot_of N B i j) 0) (get_or t (slot_of N C j k) 0))
    where
      weighed : (x y : ℕ) → min 1 x * min 1 y * held (x * y) ≡ held (x * y)
      weighed zero y = rw (zero-mul y) (omega arith)
      weighed (suc x) zero = rw (mul-zero (suc x)) (omega arith)
      weighed (suc x) (suc y) =
          let a : min 1 (suc x) ≡ 1 = omega arith in
          let b : min 1 (suc y) ≡ 1 = omega arith in
          rw (a, b) (omega arith)

  pub met_adds : sum 128 (λ j. stands lefts i B j * stands rights 0 C j * split_adds t N B C i k j) ≡ between i k (split_adds t N B C i k)
  met_adds = p.met B C b c (split_adds t N B C i k) ∙ only_met

  -- both halves of the splits at which both symbols stand
  pub halves_add : (low high : ℕ) → CommonIs lefts i B rights C 0 low → CommonIs lefts i B rights C 1 high
      → sum 64 (λ x. bit low x * split_adds t N B C i k (0 + x)) + sum 64 (λ x. bit high x * split_adds t N B C i k (64 + x)) ≡ between i k (split_adds t N B C i k)
  halves_add low high f h =
      ap₂ ◌+◌
      (sum_cong 64 _ _ (λ x l. ap₂ (λ (y z : ℕ). y * split_adds t N B C i k z) (f x l ∙ ap (λ (z : ℕ). stands lefts i B z * stands rights 0 C z) (zero-add x)) (zero-add x)))
      (sum_cong 64 _ _ (λ x l. ap (λ (y : ℕ). y * split_adds t N B C i k (64 + x)) (h x l)))
      ∙ sym (sum_split 64 64 (λ j. stands lefts i B j * stands rights 0 C j * split_adds t N B C i k j)) ∙ met_adds

  -- each of them is inside the stretch
  pub half_inside : (half w : ℕ) → half < 2 → CommonIs lefts i B rights C half w → (x : ℕ) → x < 64 → bit w x ≡ 1 → (i < 64 * half + x) × (64 * half + x < k)
  half_inside half w l f x h e = p.inside C (64 * half + x) c (omega arith) (right_one _ _ (split_lt lefts _ _) (split_lt rights _ _) (sym (f x h) ∙ e))
    where
      right_one : (y z : ℕ) → y < 2 → z < 2 → y * z ≡ 1 → z ≡ 1
      right_one zero z l m e = absurd (omega arith)
      right_one (suc zero) z l m e = omega arith
      right_one (suc (suc y)) z l m e = absurd (omega arith)

  -- where none meet, nothing is added
  pub apart_adds : Apart lefts i rights → between i k (split_adds t N B C i k) ≡ 0
  unfolding meetings
  apart_adds apart = sym met_adds ∙ sum_zero 128 _ (λ j l. ap (λ (x : ℕ). x * split_adds t N B C i k j) (term j l) ∙ zero-mul _)
    where
      none : sum 128 (λ j. stands lefts i B j * stands rights 0 C j) ≡ 0
      none = apart B C (omega (arith, p.symbols)) (omega (arith, p.symbols))

      term : (j : ℕ) → j < 128 → stands lefts i B j * stands rights 0 C j ≡ 0
      term j l = omega (arith, none, sum_upto 128 (λ j. stands lefts i B j * stands rights 0 C j) j l)

-- a cell over which none meet: its words stay 0
pub none_summed : (g : Grammar) (t lefts rights : List ℕ) (i k base : ℕ) → ((b : ℕ) → b < pair_rule_count g → ((pair_rule g b).left < g.symbols) × ((pair_rule g b).right < g.symbols))
    → Parts t g.symbols lefts rights i k → Apart lefts i rights → Zeros t base g.symbols → Summed (pair_adds g t i k) (pair_rule_count g) base g.symbols t t
unfolding pair_adds
none_summed g t lefts rights i k base fits p apart z = record {
  frame = framed_none t base g.symbols;
  word = λ A s. z.at A s ∙ sym (ap held (sum_zero (pair_rule_count g) _ (λ b l.
      ap (λ (x : ℕ). same (pair_rule g b).symbol A * x) (apart_adds t g.symbols lefts rights i k p _ _ (fits b l).0 (fits b l).1 apart) ∙ mul-zero _)));
}

-- ---- a cell that is counted and marked
pub cell_shown : (g : Grammar) (w t lefts v rights x : List ℕ) (i k word : ℕ) → i < k → ((A : ℕ) → A < g.symbols → get_or t (slot_of g.symbols A i k) 0 ≡ held (count g w A i k))
    → Nonzero t (slot_of g.symbols 0 i k) g.symbols word → CellMarked lefts v rights x i k word
    → Shown g.symbols (known g w) lefts rights (i + 1) k → Shown g.symbols (known g w) v x i k
unfolding known
cell_shown g w t lefts v rights x i k word inside right n m =
    shown_step g.symbols (known g w) (known g w) i k word inside
    (λ A s. n.at A s ∙ ap (λ (y : ℕ). min 1 (get_or t y 0)) (slot_word g.symbols A i k) ∙ ap (min 1) (right A s) ∙ some_held _) (λ y j A l f s. refl) lefts v rights x m
