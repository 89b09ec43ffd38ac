-- Texts in a room, one behind the other.
-- Assumes nothing.
use Prim.Native.Nat.{ℕ, ◌+◌, ◌-◌, ◌≤◌}
use mathlib.Core.Path.{◌≡◌, refl, sym, ap, ◌∙◌}
use mathlib.Core.List.{List, [], ◌++◌, append_assoc, append-nil}
use native.Mathlib.Nat.{le_trans, le_refl}
use native.Mathlib.Omega.{arith}
use lib.ListN.{take, drop}
use lib.Seq.{drop-drop}
use Rattle.text.specs.Put.{Put}

-- what is the same from the place at on is the same from a later place on
pub rest_on : (x y : List ℕ) (at r : ℕ) → at ≤ r → drop at x ≡ drop at y → drop r x ≡ drop r y
rest_on x y at r h e = from x ∙ ap (drop (r - at)) e ∙ sym (from y)
  where
    whole : at + (r - at) ≡ r
    whole = omega arith

    from : (l : List ℕ) → drop r l ≡ drop (r - at) (drop at l)
    from l = sym (drop-drop (r - at) at l ∙ ap (λ (k : ℕ). drop k l) whole)

pub put_none : (l : List ℕ) (at : ℕ) → Put [] l at at l
put_none l at = record { behind = le_refl at; written = sym (append-nil (take at l)); rest = refl }

pub put_more : (t u a b c : List ℕ) (at r s : ℕ) → Put t a at r b → Put u b r s c → Put (t ++ u) a at s c
put_more t u a b c at r s p q = record {
  behind = le_trans p.behind q.behind;
  written = q.written ∙ ap (λ (l : List ℕ). l ++ u) p.written ∙ append_assoc (take at a) t u;
  rest = q.rest ∙ rest_on b a r s q.behind p.rest;
}

pub put_as : (t u a b : List ℕ) (at r : ℕ) → t ≡ u → Put t a at r b → Put u a at r b
put_as t u a b at r e p = record { behind = p.behind; written = p.written ∙ ap (λ (l : List ℕ). take at a ++ l) e; rest = p.rest }
