-- A sound grammar has no dead symbol exactly where each of its symbols stands in a reading of some record: a symbol that is reached is put there by the
-- rules that reach it, whose other parts derive some events; and what stands in a reading is reached from its root and derives a stretch of its record.
-- Assumes nothing.
use mathlib.Core.Path.{◌≡◌, sym, ◌∙◌, subst, subst⁻¹}
use mathlib.Core.Logic.{inl, inr, ⊎_elim}
use mathlib.Core.List.{List, ◌++◌}
use Prim.Native.Nat.{ℕ, ◌-◌, ◌<◌}
use native.Mathlib.Omega.{arith}
use lib.ListN.{length}
use Rattle.bits.specs.Truth.{Every}
use Rattle.derivation.specs.Grammar.{Grammar, event_rule_count, pair_rule_count, pair_rule}
use Rattle.derivation.specs.Sound.{Sound}
use Rattle.derivation.specs.Tree.{Tree, leaf, node, Derives}
use Rattle.derivation.specs.Live.{DerivesSome, Reached, start, left, right, Live}
use Rattle.derivation.specs.Stands.{Uses, Stands}
use Rattle.derivation.proofs.Around.{moved}
use Rattle.derivation.proofs.Sound.{pair_fits_at}
use Rattle.derivation.proofs.Live.{join, joined, derives_upward, tree_in}

module _ (g : Grammar) where
  -- a derivation uses its own symbol, and moved it uses what it used
  uses_own : (w : List ℕ) (A i k : ℕ) (t : Tree) → Derives g w A i k t → Uses g A t
  uses_own w A i k (leaf r p) d = d.symbol
  uses_own w A i k (node r j t u) d = inl d.0.symbol

  uses_moved : (n A : ℕ) (t : Tree) → Uses g A t → Uses g A (moved n t)
  uses_moved n A (leaf r p) h = h
  uses_moved n A (node r j t u) h = ⊎_elim inl (⊎_elim (λ x. inr (inl (uses_moved n A t x))) (λ x. inr (inr (uses_moved n A u x)))) h

  -- ---- from live symbols to readings
  module _ (parts : (b : ℕ) → b < pair_rule_count g → DerivesSome g (pair_rule g b).left × DerivesSome g (pair_rule g b).right) where
    -- a derivation of what is reached stands in a reading
    placed : (A : ℕ) → Reached g A → (v : List ℕ) (t : Tree) → Derives g v A 0 (length v) t → (C : ℕ) → Uses g C t → Stands g C
    placed A start v t d C u = record { events = v; tree = t; reads = d; uses = u }
    placed A (left b l h) v t d C u =
        let y = (parts b l).1 in
        placed (pair_rule g b).symbol h (v ++ y.events) (join g b v t y.derivable.0)
        (joined g b l v y.events t y.derivable.0 d y.derivable.1) C (inr (inl u))
    placed A (right b l h) v t d C u =
        let x = (parts b l).0 in
        placed (pair_rule g b).symbol h (x.events ++ v) (join g b x.events x.derivable.0 t)
        (joined g b l x.events v x.derivable.0 t x.derivable.1 d) C
        (inr (inr (uses_moved (length x.events) C t u)))

  pub live_stands : Sound g → Every g.symbols (Live g) → Every g.symbols (Stands g)
  live_stands s f A l =
      let d = (f A l).derives in
      placed parts A (f A l).reached d.events d.derivable.0 d.derivable.1 A
      (uses_own d.events A 0 (length d.events) d.derivable.0 d.derivable.1)
    where
      parts : (b : ℕ) → b < pair_rule_count g → DerivesSome g (pair_rule g b).left × DerivesSome g (pair_rule g b).right
      parts b m =
          let q = pair_fits_at g s b m in
          ((f _ q.left).derives, (f _ q.right).derives)

  -- ---- and back
  module _ (A : ℕ) (w : List ℕ) where
    own : (B i k : ℕ) (t : Tree) → Derives g w B i k t → Reached g B → B ≡ A → Live g A
    own B i k t d h e = subst (Live g) e (record { derives = tree_in g (DerivesSome g) (derives_upward g) w B i k t d; reached = h })

    used : (B i k : ℕ) (t : Tree) → Derives g w B i k t → Reached g B → Uses g A t → Live g A
    used B i k (leaf r p) d h u = own B i k (leaf r p) d h (sym d.symbol ∙ u)
    used B i k (node r j t v) d h u =
        let b = r - event_rule_count g in
        let l : b < pair_rule_count g = omega (arith, d.0.low, d.0.high) in
        let m = subst⁻¹ (Reached g) d.0.symbol h in
        ⊎_elim (λ e. own B i k (node r j t v) d h (sym d.0.symbol ∙ e))
        (⊎_elim (used (pair_rule g b).left i j t d.1 (left b l m)) (used (pair_rule g b).right j k v d.2 (right b l m))) u

  pub stands_live : (A : ℕ) → Stands g A → Live g A
  stands_live A s = used A s.events 0 0 (length s.events) s.tree s.reads start s.uses
