-- A line's text, one number at a time.
-- Assumes nothing.
use Prim.Native.Nat.{ℕ, ◌+◌, ◌<◌}
use mathlib.Core.Path.{◌≡◌, refl}
use mathlib.Core.List.{List, [], ◌∷◌, ◌++◌}
use native.Mathlib.Numerals.{add-one}
use native.Mathlib.Omega.{arith}
use lib.ListN.{length, drop, get_or}
use lib.Seq.{drop-cons, drop-length}
use Rattle.text.specs.Text.{text, more, line}

pub line_none : (ws : List ℕ) → length ws ≡ 0 → line ws ≡ 10 ∷ []
unfolding line
line_none [] h = refl
line_none (w ∷ ws) h = absurd (omega (arith, h))

pub line_first : (ws rest : List ℕ) (w : ℕ) → ws ≡ w ∷ rest → line ws ≡ text w ++ more rest
unfolding line
line_first ws rest w e = rw e

pub more_next : (ws : List ℕ) (i : ℕ) → i < length ws → more (drop i ws) ≡ 32 ∷ (text (get_or ws i 0) ++ more (drop (i + 1) ws))
unfolding more
more_next ws i h = rw (drop-cons ws i 0 h, add-one)

pub more_end : (ws : List ℕ) (i : ℕ) → i ≡ length ws → more (drop i ws) ≡ 10 ∷ []
unfolding more
more_end ws i e = rw (e, drop-length ws)
