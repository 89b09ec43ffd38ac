-- Of every symbol it is decided whether it lives: each of the two laws is a least set of clauses, one for each event rule and one or two for each pair
-- rule.
-- Assumes nothing.
use mathlib.Core.Logic.Dec
use mathlib.Core.Logic.{inl, inr, ⊎_elim}
use mathlib.Core.List.{List, [], ◌∷◌, ◌++◌, map}
use Prim.Native.Nat.{ℕ, ◌<◌}
use Rattle.bits.specs.Truth.{Every}
use Rattle.bits.proofs.Each.{all_both, all_front, all_back, all_each, all_at}
use Rattle.bits.proofs.Decisions.{dec_as, some_fails}
use Rattle.derivation.specs.Grammar.{EventRule, PairRule, Grammar}
use Rattle.derivation.specs.Live.{DerivesSome, Reached, Live, Dead}
use Rattle.derivation.proofs.Least.{Clause, Stays, AllStay, decided}
use Rattle.derivation.proofs.Live.{Upward, Downward, derives_upward, derives_least, reached_downward, reached_least}

-- ---- the clauses
abbrev pub of_event : EventRule → Clause
of_event q = record { needs = []; gives = q.symbol }

abbrev pub of_parts : PairRule → Clause
of_parts q = record { needs = q.left ∷ q.right ∷ []; gives = q.symbol }

abbrev pub to_left : PairRule → Clause
to_left q = record { needs = q.symbol ∷ []; gives = q.left }

abbrev pub to_right : PairRule → Clause
to_right q = record { needs = q.symbol ∷ []; gives = q.right }

module _ (g : Grammar) where
  unfoldable pub up_clauses : List Clause
  up_clauses = map of_event g.leaves ++ map of_parts g.pairs

  unfoldable pub down_clauses : List Clause
  down_clauses = record { needs = []; gives = 0 } ∷ map to_left g.pairs ++ map to_right g.pairs

  -- ---- they say what the laws say
  module _ (In : ℕ → Type 0) where
    pub up_stays : Upward g In → AllStay In up_clauses
    unfolding up_clauses
    up_stays u =
        all_both (Stays In) (map of_event g.leaves) (map of_parts g.pairs)
        (all_each (Stays In) of_event _ g.leaves (λ r l _. u.event r l))
        (all_each (Stays In) of_parts _ g.pairs (λ b l n. u.pair b l n.0 n.1.0))

    pub stays_up : AllStay In up_clauses → Upward g In
    unfolding up_clauses
    stays_up p = record {
      event = λ r l. all_at (Stays In) of_event _ g.leaves (all_front (Stays In) (map of_event g.leaves) (map of_parts g.pairs) p) r l tt;
      pair = λ b l x y. all_at (Stays In) of_parts _ g.pairs (all_back (Stays In) (map of_event g.leaves) (map of_parts g.pairs) p) b l (x, (y, tt));
    }

    pub down_stays : Downward g In → AllStay In down_clauses
    unfolding down_clauses
    down_stays d = (
      λ _. d.start,
      all_both (Stays In) (map to_left g.pairs) (map to_right g.pairs)
          (all_each (Stays In) to_left _ g.pairs (λ b l n. d.left b l n.0))
          (all_each (Stays In) to_right _ g.pairs (λ b l n. d.right b l n.0)),
    )

    pub stays_down : AllStay In down_clauses → Downward g In
    unfolding down_clauses
    stays_down p = record {
      start = p.0 tt;
      left = λ b l x. all_at (Stays In) to_left _ g.pairs (all_front (Stays In) (map to_left g.pairs) (map to_right g.pairs) p.1) b l (x, tt);
      right = λ b l x. all_at (Stays In) to_right _ g.pairs (all_back (Stays In) (map to_left g.pairs) (map to_right g.pairs) p.1) b l (x, tt);
    }

  -- ---- the decisions
  unfoldable pub derives? : (A : ℕ) → Dec (DerivesSome g A)
  derives? = decided (DerivesSome g) up_clauses (up_stays (DerivesSome g) (derives_upward g)) (λ In p. derives_least g In (stays_up In p))

  unfoldable pub reached? : (A : ℕ) → Dec (Reached g A)
  reached? = decided (Reached g) down_clauses (down_stays (Reached g) (reached_downward g)) (λ In p. reached_least g In (stays_down In p))

  unfoldable pub live? : (A : ℕ) → Dec (Live g A)
  live? A =
      dec_as (λ p. record { derives = p.0; reached = p.1 }) (λ l. (l.derives, l.reached)) (Dec.and (derives? A) (reached? A))

  -- where not every symbol is live, one is dead; and where one is dead, not every one is live
  pub dead_symbol : (Every g.symbols (Live g) → ⊥) → (A : ℕ) × (A < g.symbols) × Dead g A
  dead_symbol f =
      let s = some_fails g.symbols (Live g) live? f in
      (s.0, s.1, elim (derives? s.0) [ yes d ↦ inr (λ r. s.2 (record { derives = d; reached = r })) | no d ↦ inl d ])

  pub not_all_live : (A : ℕ) → A < g.symbols → Dead g A → Every g.symbols (Live g) → ⊥
  not_all_live A l d f = ⊎_elim (λ n. n (f A l).derives) (λ n. n (f A l).reached) d
