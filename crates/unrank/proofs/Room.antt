-- What the room holds after the root is stored and after each of the two tails has come back: one step of the writer.
-- Assumes nothing.
use Prim.Native.Nat.{ℕ, suc, ◌+◌, ◌-◌, ◌*◌, ◌<◌}
use native.Mathlib.Omega.{arith}
use mathlib.Core.Path.{◌≡◌, refl, ap, ◌∙◌}
use mathlib.Core.List.{List, [], ◌∷◌, ◌++◌, append_assoc, append-nil}
use lib.ListN.{length, get_or, take, drop, length-append, length-drop}
use lib.Seq.{take_all, drop-drop, drop-length, take_at, drop_at}
use Rattle.derivation.specs.Grammar.{Grammar}
use Rattle.derivation.specs.Tree.{leaf, script, script_word_count}
use Rattle.derivation.specs.Derivations.{derivations, count}
use Rattle.derivation.specs.Numbering.{none}
use Rattle.derivation.proofs.Lists.{in_get_d}
use Rattle.derivation.proofs.Exact.{derivations_sound}
use Rattle.derivation.proofs.Scripts.{script_length}
use Rattle.unrank.specs.declared.choose.Plan.{Plan}
use Rattle.unrank.specs.Choice.{PlanOk, plan_tree}

-- the part from a on, as it is lent; and l with y, what came back, in its place
abbrev pub tail : ℕ → List ℕ → List ℕ
tail a l = take (length l - a) (drop a l)

abbrev pub back : ℕ → List ℕ → List ℕ → List ℕ
back a l y = take a l ++ (y ++ drop (length l - a) (drop a l))

pub tail_is : (a : ℕ) (l : List ℕ) → tail a l ≡ drop a l
tail_is a l = take_all (length l - a) (drop a l) (simp length-drop (omega arith))

pub tail_length : (a : ℕ) (l : List ℕ) → length (tail a l) ≡ length l - a
tail_length a l = rw tail_is (length-drop a l)

-- s was written to the front of the tail q of l
pub back_is : (a : ℕ) (l p q s y : List ℕ) (m : ℕ) → l ≡ p ++ q → length p ≡ a → y ≡ s ++ drop m (tail a l) → back a l y ≡ (p ++ s) ++ drop m q
back_is a l p q s y m e n d =
    let t : drop a l ≡ q = rw e (drop_at p q a n) in
    let f : take a l ≡ p = rw e (take_at p q a n) in
    let c : length l - a ≡ length q = omega (arith, ap length e, length-append p q) in
    rw (d, tail_is, t, f, c, drop-length, append-nil, append_assoc)

pub script_words_is : (g : Grammar) (w : List ℕ) (A i k n : ℕ) → n < count g w A i k → length (script (get_or (derivations g w A i k) n none)) ≡ script_word_count (k - i)
unfolding count
script_words_is g w A i k n h = script_length g w A i k _ (derivations_sound g w A i k (in_get_d none (derivations g w A i k) n h))

head : (a x m : ℕ) → m ≡ 2 + a → x ≡ a → suc (suc x) ≡ m
head a x m p q = omega arith

module _ (g : Grammar) (w : List ℕ) (i k : ℕ) (q : Plan) (p : PlanOk g w i k q)
    (room l : List ℕ) (e : l ≡ q.rule ∷ q.split ∷ drop 2 room) where
  abbrev r : ℕ
  r = q.rule

  abbrev j : ℕ
  j = q.split

  abbrev first : List ℕ
  first = script (get_or (derivations g w q.left.symbol i j) q.left.number none)

  abbrev second : List ℕ
  second = script (get_or (derivations g w q.right.symbol j k) q.right.number none)

  first_words_is : length first ≡ script_word_count (j - i)
  first_words_is = script_words_is g w q.left.symbol i j q.left.number p.left_some

  whole : script_word_count (k - i) ≡ 2 + (script_word_count (j - i) + script_word_count (k - j))
  whole = omega (arith, p.after, p.before)

  module _ (y : List ℕ) (d : y ≡ first ++ drop (script_word_count (j - i)) (tail 2 l)) where
    after : back 2 l y ≡ ((r ∷ j ∷ []) ++ first) ++ drop (script_word_count (j - i)) (drop 2 room)
    after = back_is 2 l (r ∷ j ∷ []) (drop 2 room) first y (script_word_count (j - i)) e refl d

    middle : 4 * (j - i) ≡ 2 + script_word_count (j - i)
    middle = omega (arith, p.after)

    module _ (x : List ℕ) (f : x ≡ second ++ drop (script_word_count (k - j)) (tail (4 * (j - i)) (back 2 l y))) where
      pub end : back (4 * (j - i)) (back 2 l y) x ≡ script (plan_tree g w i k q) ++ drop (script_word_count (k - i)) room
      unfolding script
      end = back_is (4 * (j - i)) (back 2 l y) ((r ∷ j ∷ []) ++ first) (drop (script_word_count (j - i)) (drop 2 room)) second x (script_word_count (k - j)) after (head (script_word_count (j - i)) (length first) (4 * (j - i)) middle first_words_is) f
          ∙ rw (drop-drop, drop-drop, whole)

-- one event: the root is all
pub leaf_end : (g : Grammar) (w : List ℕ) (A i k n r : ℕ) (room l : List ℕ) → k ≡ i + 1 → l ≡ r ∷ k ∷ drop 2 room
    → get_or (derivations g w A i (i + 1)) n none ≡ leaf r (i + 1) → l ≡ script (get_or (derivations g w A i k) n none) ++ drop (script_word_count (k - i)) room
unfolding script
leaf_end g w A i k n r room l e h s = let two : script_word_count (i + 1 - i) ≡ 2 = omega arith in rw (h, e, s, two)
