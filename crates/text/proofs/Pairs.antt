-- The words of bytes, one pair of bytes at a time.
-- Assumes nothing.
use Prim.Native.Nat.{ℕ, zero, suc, ◌+◌, ◌*◌, ◌/◌, ◌≤◌, ◌<◌}
use mathlib.Core.Path.{◌≡◌, refl, ap, ◌∙◌}
use mathlib.Core.List.{List, [], ◌∷◌}
use native.Mathlib.Nat.{not-suc-le-zero}
use native.Mathlib.Omega.{arith}
use lib.ListN.{length, take, drop, get_or, length-drop}
use lib.Seq.{drop-cons, drop-drop, get_or-take, get_or-drop}
use Rattle.std.specs.Simd.{first_chunks}
use Rattle.text.specs.Text.{words}

pub words_next : (bs : List ℕ) (i : ℕ) → 2 * i + 1 < length bs
    → words (drop (2 * i) bs) ≡ (get_or bs (2 * i) 0 + 256 * get_or bs (2 * i + 1) 0) ∷ words (drop (2 * (i + 1)) bs)
unfolding words
words_next bs i h =
    let e : suc (2 * i) ≡ 2 * i + 1 = omega arith in
    let f : suc (2 * i + 1) ≡ 2 * (i + 1) = omega arith in
    rw (drop-cons bs (2 * i) 0 (omega arith), e, drop-cons bs (2 * i + 1) 0 h, f)

-- the pair of bytes i, of the first k pairs
pair_at : (k i : ℕ) (bs : List ℕ) → i < k → get_or (first_chunks 2 k bs) i [] ≡ take 2 (drop (2 * i) bs)
pair_at zero i bs h = absurd (not-suc-le-zero h)
pair_at (suc k) zero bs h = refl
pair_at (suc k) (suc i) bs h = pair_at k i (drop 2 bs) (omega (arith, h)) ∙ ap (take 2) (drop-drop (2 * i) 2 bs ∙ ap (λ (m : ℕ). drop m bs) (omega arith))

-- w is read from the pair p, which is the pair of bytes i
pub words_pair : (bs : List ℕ) (ps : List (List ℕ)) (i w : ℕ) → ps ≡ first_chunks 2 (length bs / 2) bs → i < length bs / 2
    → w ≡ get_or (get_or ps i []) 0 0 + get_or (get_or ps i []) 1 0 * 256 → words (drop (2 * i) bs) ≡ w ∷ words (drop (2 * (i + 1)) bs)
words_pair bs ps i w e h v = words_next bs i (omega (arith, h)) ∙ ap (λ (x : ℕ). x ∷ words (drop (2 * (i + 1)) bs)) (omega (arith, v, byte 0 (omega arith), byte 1 (omega arith), first))
  where
    byte : (j : ℕ) → j < 2 → get_or (get_or ps i []) j 0 ≡ get_or bs (2 * i + j) 0
    byte j l = rw (e, pair_at (length bs / 2) i bs h) (get_or-take 2 (drop (2 * i) bs) j 0 l ∙ get_or-drop (2 * i) bs j 0)

    first : get_or bs (2 * i + 0) 0 ≡ get_or bs (2 * i) 0
    first = ap (λ (x : ℕ). get_or bs x 0) (omega arith)

words_short : (bs : List ℕ) → length bs ≤ 1 → words bs ≡ []
unfolding words
words_short [] h = refl
words_short (a ∷ []) h = refl
words_short (a ∷ b ∷ bs) h = absurd (omega (arith, h))

pub words_end : (bs : List ℕ) (i : ℕ) → length bs ≤ 2 * i + 1 → words (drop (2 * i) bs) ≡ []
words_end bs i h = words_short (drop (2 * i) bs) (rw length-drop (omega arith))

pub length_words : (bs : List ℕ) → length (words bs) ≡ length bs / 2
unfolding words
length_words [] = refl
length_words (a ∷ []) = refl
length_words (a ∷ b ∷ bs) = omega (arith, length_words bs)
