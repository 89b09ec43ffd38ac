-- The words of a node and of its two parts, and what a step of each part leaves of them.
-- Assumes nothing.
use Prim.Native.Nat.{ℕ, ◌+◌, ◌-◌, ◌*◌, ◌<◌}
use native.Mathlib.Nat.{suc-mul}
use native.Mathlib.Numerals.{add-one}
use native.Mathlib.Omega.{arith}
use mathlib.Core.Path.{◌≡◌, refl, sym, ap, ◌∙◌}
use mathlib.Core.Bool.{Bool, true, false}
use mathlib.Core.List.{List, [], ◌∷◌, ◌++◌, append-nil}
use lib.ListN.{length, get_or, take, drop, length-append}
use lib.Seq.{take_at, drop_at, drop-length}
use Rattle.derivation.specs.Grammar.{Grammar}
use Rattle.derivation.specs.Tree.{script, script_word_count}
use Rattle.derivation.specs.Derivations.{derivations, count}
use Rattle.derivation.specs.Numbering.{none}
use Rattle.lookup.specs.declared.Pair.{Pair}
use Rattle.unrank.proofs.Room.{tail, back, tail_is, script_words_is}
use Rattle.pages.specs.Step.{Begins, StepsTo, Stepped, Parted, PartsNext, PartsLast}

-- ---- a part of a slice that comes back with other words
pub back_all : (a : ℕ) (l p q y : List ℕ) → l ≡ p ++ q → length p ≡ a → back a l y ≡ p ++ y
back_all a l p q y e n =
    let t : drop a l ≡ q = rw e (drop_at p q a n) in
    let f : take a l ≡ p = rw e (take_at p q a n) in
    let c : length l - a ≡ length q = omega (arith, ap length e, length-append p q) in
    rw (t, f, c, drop-length, append-nil)

pub tail_all : (a : ℕ) (l p q : List ℕ) → l ≡ p ++ q → length p ≡ a → tail a l ≡ q
tail_all a l p q e n = tail_is a l ∙ rw e (drop_at p q a n)

module _ (g : Grammar) (w : List ℕ) (A i k q : ℕ) (rest room room' : List ℕ) where
  -- where q is not the last
  pub steps_on : (b : Bool) → StepsTo g w A i k q rest room b room' → q + 1 < count g w A i k → Begins g w A i k (q + 1) rest room'
  steps_on true h l = h
  steps_on false h l = absurd (omega (arith, h.0))

-- ---- the two parts of a node
module _ (g : Grammar) (w : List ℕ) (p : Pair) (i j k : ℕ) (after : i < j) (before : j < k) (r s : ℕ) (rest : List ℕ) where
  abbrev left : ℕ → List ℕ
  left x = script (get_or (derivations g w p.left i j) x none)

  abbrev right : ℕ → List ℕ
  right y = script (get_or (derivations g w p.right j k) y none)

  abbrev mid : ℕ
  mid = 4 * (j - i)

  module _ (x y : ℕ) (room : List ℕ) (a : Parted g w p i j k r s x y rest room) where
    to_mid : length ((r ∷ s ∷ []) ++ left x) ≡ mid
    to_mid = omega (arith, script_words_is g w p.left i j x a.left)

    pub parted_length : length room ≡ mid + (script_word_count (k - j) + length rest)
    parted_length =
        ap length a.text ∙ omega (arith, length-append (left x) (right y ++ rest), length-append (right y) rest, script_words_is g w p.left i j x a.left, script_words_is g w p.right j k y a.right)

    right_tail : tail mid room ≡ right y ++ rest
    right_tail = tail_all mid room ((r ∷ s ∷ []) ++ left x) (right y ++ rest) a.text to_mid

    pub right_begins : Begins g w p.right j k y rest (tail mid room)
    right_begins = record { below = a.right; text = right_tail }

    left_tail : tail 2 room ≡ left x ++ (right y ++ rest)
    left_tail = tail_all 2 room (r ∷ s ∷ []) (left x ++ (right y ++ rest)) a.text refl

    pub left_begins : Begins g w p.left i j x (right y ++ rest) (tail 2 room)
    left_begins = record { below = a.left; text = left_tail }

    -- v comes back from a step of the right part
    module _ (b : Bool) (v : List ℕ) (step : Stepped g w p.right j k (tail mid room) b v) where
      pub right_next : b ≡ true → PartsNext g w p i j k r s x y rest (back mid room v)
      right_next e =
          let n = rw e at (step.from y rest right_begins) in
          record {
            x' = x;
            y' = y + 1;
            place = omega arith;
            is = record {
              left = a.left;
              right = n.below;
              text = back_all mid room ((r ∷ s ∷ []) ++ left x) (right y ++ rest) v a.text to_mid ∙ rw n.text;
            };
          }

      right_last : b ≡ false → (y + 1 ≡ count g w p.right j k) × (back mid room v ≡ room)
      right_last e =
          let n = rw e at (step.from y rest right_begins) in
          (n.0, back_all mid room ((r ∷ s ∷ []) ++ left x) (right y ++ rest) v a.text to_mid ∙ rw (n.1, right_tail) (sym a.text))

      pub right_kept : b ≡ false → Parted g w p i j k r s x y rest (back mid room v)
      right_kept e = record { left = a.left; right = a.right; text = (right_last e).1 ∙ a.text }

    -- and u from writing the right part anew
    right_anew : (u : List ℕ) → u ≡ right 0 ++ drop (script_word_count (k - j)) (tail mid room) → Parted g w p i j k r s x 0 rest (back mid room u)
    right_anew u e =
        record {
          left = a.left;
          right = omega (arith, a.right);
          text = back_all mid room ((r ∷ s ∷ []) ++ left x) (right y ++ rest) u a.text to_mid
              ∙ rw (e, right_tail, drop_at (right y) rest (script_word_count (k - j)) (script_words_is g w p.right j k y a.right));
        }

    -- z comes back from a step of the left part
    module _ (b : Bool) (z : List ℕ) (step : Stepped g w p.left i j (tail 2 room) b z) where
      left_next : b ≡ true → Parted g w p i j k r s (x + 1) y rest (back 2 room z)
      left_next e =
          let n = rw e at (step.from x (right y ++ rest) left_begins) in
          record {
            left = n.below;
            right = a.right;
            text = back_all 2 room (r ∷ s ∷ []) (left x ++ (right y ++ rest)) z a.text refl ∙ rw n.text;
          }

      left_last : b ≡ false → (x + 1 ≡ count g w p.left i j) × (back 2 room z ≡ room)
      left_last e =
          let n = rw e at (step.from x (right y ++ rest) left_begins) in
          (n.0, back_all 2 room (r ∷ s ∷ []) (left x ++ (right y ++ rest)) z a.text refl ∙ rw (n.1, left_tail) (sym a.text))

  -- the right part had no next one
  module _ (x y : ℕ) (room : List ℕ) (a : Parted g w p i j k r s x y rest room)
      (b : Bool) (v : List ℕ) (step : Stepped g w p.right j k (tail mid room) b v) (e : b ≡ false)
      (d : Bool) (z : List ℕ) (step₂ : Stepped g w p.left i j (tail 2 (back mid room v)) d z) where
    -- and the left part has one
    pub left_stepped : d ≡ true → Parted g w p i j k r s (x + 1) y rest (back 2 (back mid room v) z)
    left_stepped f = left_next x y (back mid room v) (right_kept x y room a b v step e) d z step₂ f

    pub parts_anew : d ≡ true → (u : List ℕ) → u ≡ right 0 ++ drop (script_word_count (k - j)) (tail mid (back 2 (back mid room v) z))
        → PartsNext g w p i j k r s x y rest (back mid (back 2 (back mid room v) z) u)
    parts_anew f u h = record {
      x' = x + 1;
      y' = 0;
      place = rw (add-one x) (omega (arith, suc-mul x (count g w p.right j k), (right_last x y room a b v step e).0));
      is = right_anew (x + 1) y (back 2 (back mid room v) z) (left_stepped f) u h;
    }

    -- or it has none either
    pub parts_over : d ≡ false → PartsLast g w p i j k x y room (back 2 (back mid room v) z)
    parts_over f =
        let l = left_last x y (back mid room v) (right_kept x y room a b v step e) d z step₂ f in
        let h = right_last x y room a b v step e in
        record { left = l.0; right = h.0; kept = l.1 ∙ h.1 }
