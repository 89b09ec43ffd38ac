-- The words of one cell: what changes when one is stored, and how a sum over the rules grows in each of them.
-- Assumes nothing.
use Prim.Native.Nat.{ℕ, ◌+◌, ◌≤◌, ◌<◌}
use native.Mathlib.Omega.{arith}
use native.Mathlib.Nat.{zero-mul, mul-zero, one-mul}
use native.Mathlib.Decide.{ℕ_discrete}
use mathlib.Core.Path.{◌≡◌, refl, sym, ap, ◌∙◌}
use mathlib.Core.List.{List}
use lib.ListN.{length, get_or, set}
use lib.Seq.{get_or-set_same, get_or-set_other}
use Rattle.bits.specs.Sum.{sum, between}
use Rattle.bits.specs.Frame.{Framed, Zeros}
use Rattle.bits.proofs.Frames.{framed_none, framed_set, framed_within}
use Rattle.bits.proofs.Truths.{same_eq, same_other}
use Rattle.bits.proofs.Sums.{sum_more, between_cong}
use Rattle.derivation.specs.Grammar.{Grammar, event_rule, pair_rule}
use Rattle.lookup.specs.declared.Leaf.{Leaf}
use Rattle.lookup.specs.declared.Pair.{Pair}
use Rattle.lookup.specs.Rule.{LeafIs, PairIs}
use Rattle.table.specs.Table.{held, slot_of, table_words}
use Rattle.table.specs.Fill.{split_adds, pair_adds, leaf_adds, Summed}
use Rattle.table.proofs.Held.{held_on}
use Rattle.table.proofs.Slots.{slot_before, slot_after, cell_fits}

-- a cell's words are among those that the record needs
pub framed_cell : (N i k n : ℕ) (a b c : List ℕ) → i < k → k ≤ n → Framed a b 0 (table_words N n) → Framed b c (slot_of N 0 i k) N → Framed a c 0 (table_words N n)
framed_cell N i k n a b c l h = let t = cell_fits N i k n l h in framed_within a b c 0 (table_words N n) (slot_of N 0 i k) N (omega arith) (omega arith)

-- ---- a sum over the rules, rule r adding F A r to the word of A
module _ (F : ℕ → ℕ → ℕ) (base N : ℕ) where
  pub summed_start : (l : List ℕ) → Zeros l base N → Summed F 0 base N l l
  unfolding sum
  summed_start l z = record { frame = framed_none l base N; word = z.at }

  module _ (old l : List ℕ) (r : ℕ) (h : Summed F r base N old l) where
    same_word : (A : ℕ) → A < N → F A r ≡ 0 → get_or l (base + A) 0 ≡ held (sum (r + 1) (F A))
    same_word A a e = h.word A a ∙ rw (sum_more, e) (ap held (omega arith))

    -- the rule adds nothing to any word
    pub summed_skip : ((A : ℕ) → A < N → F A r ≡ 0) → Summed F (r + 1) base N old l
    summed_skip e = record { frame = h.frame; word = λ A a. same_word A a (e A a) }

    -- the rule adds s to the word of the symbol S alone
    module _ (S : ℕ) (here : S < N) (fit : base + S < length old) (x s v : ℕ) (ex : x ≡ base + S) (es : s ≡ held (F S r))
        (ev : v ≡ held (get_or l x 0 + s)) (other : (A : ℕ) → (S ≡ A → ⊥) → F A r ≡ 0) where
      new_word : (A : ℕ) → A < N → get_or (set l (base + S) v) (base + A) 0 ≡ held (sum (r + 1) (F A))
      new_word A a = elim (ℕ_discrete S A) [
        | yes e ↦ rw (← e, get_or-set_same l (base + S) v 0 (rw h.frame.long fit), sum_more)
            (held_on (sum r (F S)) (get_or l (base + S) 0) (F S r) v s (h.word S here) es (rw ex at ev))
        | no n ↦ get_or-set_other l (base + S) (base + A) v 0 (λ e. n (omega arith)) ∙ same_word A a (other A n)
      ]

      pub summed_on : Summed F (r + 1) base N old (set l x v)
      summed_on = rw ex (record { frame = framed_set old l base N S v h.frame here; word = new_word })

-- ---- what a rule adds
module _ (g : Grammar) (x : ℕ) (r : ℕ) where
  pub leaf_adds_is : (event_rule g r).event ≡ x → leaf_adds g x (event_rule g r).symbol r ≡ 1
  unfolding leaf_adds
  leaf_adds_is e = rw (same_eq _ _ e, same_eq (event_rule g r).symbol _ refl)

  pub leaf_other : (A : ℕ) → ((event_rule g r).symbol ≡ A → ⊥) → leaf_adds g x A r ≡ 0
  unfolding leaf_adds
  leaf_other A n = rw (same_other (event_rule g r).symbol A n) (mul-zero _)

  pub leaf_skips : ((event_rule g r).event ≡ x → ⊥) → (A : ℕ) → leaf_adds g x A r ≡ 0
  unfolding leaf_adds
  leaf_skips n A = rw (same_other (event_rule g r).event x n) (zero-mul _)

module _ (g : Grammar) (t : List ℕ) (i k q : ℕ) where
  pub pair_adds_is : (A : ℕ) → (pair_rule g q).symbol ≡ A → pair_adds g t i k A q ≡ between i k (split_adds t g.symbols (pair_rule g q).left (pair_rule g q).right i k)
  unfolding pair_adds
  pair_adds_is A e = rw (same_eq _ _ e) (one-mul _)

  pub pair_other : (A : ℕ) → ((pair_rule g q).symbol ≡ A → ⊥) → pair_adds g t i k A q ≡ 0
  unfolding pair_adds
  pair_other A n = rw (same_other _ _ n) (zero-mul _)

-- the words that a cell is worked out from are outside it
pub splits_framed : (N : ℕ) (old new : List ℕ) (B C i k : ℕ) → Framed old new (slot_of N 0 i k) N → B < N
    → between i k (split_adds new N B C i k) ≡ between i k (split_adds old N B C i k)
unfolding split_adds
splits_framed N old new B C i k f b = between_cong i k _ _ (λ j l h.
    rw (f.before _ (slot_before N B i j i k b l h), f.after _ (slot_after N C i j k l)))

-- ---- one turn of the loops over the rules
module _ (g : Grammar) (x base : ℕ) (old l : List ℕ) (r : ℕ) (h : Summed (leaf_adds g x) r base g.symbols old l) (v : Leaf) (p : LeafIs g r v) where
  pub leaves_skip : (v.event ≡ x → ⊥) → Summed (leaf_adds g x) (r + 1) base g.symbols old l
  leaves_skip n = summed_skip _ base g.symbols old l r h (λ A a. leaf_skips g x r (λ z. n (p.event ∙ z)) A)

  pub leaves_on : v.event ≡ x → base + g.symbols ≤ length old
      → Summed (leaf_adds g x) (r + 1) base g.symbols old (set l (base + v.symbol) (held (get_or l (base + v.symbol) 0 + 1)))
  leaves_on z fit =
      let low = rw p.symbol at p.symbol_fits in
      summed_on _ base g.symbols old l r h (event_rule g r).symbol low (omega arith)
      (base + v.symbol) 1 _ (ap (λ (y : ℕ). base + y) p.symbol) (rw (leaf_adds_is g x r (sym p.event ∙ z))) refl (leaf_other g x r)

module _ (g : Grammar) (i k base : ℕ) (old l : List ℕ) (b : ℕ) (h : Summed (pair_adds g old i k) b base g.symbols old l) (v : Pair) (p : PairIs g b v) where
  pub pairs_on : base ≡ slot_of g.symbols 0 i k → base + g.symbols ≤ length old
      → (N more : ℕ) → N ≡ g.symbols → more ≡ held (between i k (split_adds l N v.left v.right i k))
      → Summed (pair_adds g old i k) (b + 1) base g.symbols old (set l (base + v.symbol) (held (get_or l (base + v.symbol) 0 + more)))
  pairs_on eb fit N more en em =
      let low = rw p.symbol at p.symbol_fits in
      summed_on _ base g.symbols old l b h (pair_rule g b).symbol low (omega arith)
      (base + v.symbol) more _ (ap (λ (y : ℕ). base + y) p.symbol)
      (em ∙ rw (en, splits_framed g.symbols old l v.left v.right i k (rw eb at h.frame) p.left_fits, pair_adds_is g old i k b _ refl, p.left, p.right))
      refl (pair_other g old i k b)
