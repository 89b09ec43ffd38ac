-- Each byte is one of the number that the bytes show, so that bytes which show the same words are the same.
-- Assumes nothing.
use mathlib.Core.Path.{◌≡◌, sym, ap, ◌∙◌, subst}
use mathlib.Core.Logic.{⊎_elim}
use mathlib.Core.List.{List, [], ◌∷◌}
use Prim.Native.Nat.{ℕ, zero, suc, ◌+◌, ◌*◌, ◌/◌, ◌%◌, ◌^◌, ◌≤◌, ◌<◌}
use native.Mathlib.Nat.{mul_comm, mul-suc, mul-le-mul_left, pow-zero, div-one, div-add-mod, div-div-eq-div-mul, div-lt_iff_lt-mul, mod-lt, mul-div-le}
use native.Mathlib.Omega.{arith, pow_step}
use lib.ListN.{length, get_or, take, drop, length-drop}
use lib.Seq.{length-take-le, get_or-take, get_or-drop, ext_get_or}
use Rattle.bits.proofs.Truths.{lt_or_ge}
use Rattle.packed.specs.Packed.{value, words}
use Rattle.packed.specs.Bytes.{Bytes, byte_of, Unpacked}
use Rattle.packed.proofs.Words.{length_words, first_at}

byte_value : (bs : List ℕ) → ((x : ℕ) → x < length bs → get_or bs x 0 < 256) → (j : ℕ) → j < length bs → get_or bs j 0 ≡ byte_of (value bs) j
unfolding value
byte_value [] f j h = absurd (omega (arith, h))
byte_value (b ∷ bs) f zero h = rw (pow-zero, div-one) (omega (arith, f 0 (omega arith)))
byte_value (b ∷ bs) f (suc j) h =
    byte_value bs (λ x l. f (suc x) (omega (arith, l))) j (omega (arith, h))
    ∙ rw (pow_step 256 j, ← div-div-eq-div-mul (b + 256 * value bs) 256 (256 ^ j)) (ap (λ (v : ℕ). v / 256 ^ j % 256) (omega (arith, f 0 (omega arith))))

-- ---- the bytes of words
module _ (size : ℕ) (some : 0 < size) (ws after : List ℕ) (f : Bytes after) (e : words size after ≡ ws) where
  many : length ws ≡ length after / size
  many = ap length (sym e) ∙ length_words size after

  -- byte x is byte x % size of word x / size
  module _ (x : ℕ) (h : x < size * length ws) where
    abbrev q : ℕ
    q = x / size

    abbrev part : List ℕ
    part = take size (drop (size * q) after)

    whole : q < length after / size
    whole = (div-lt_iff_lt-mul some).1 (subst (λ (y : ℕ). x < y) (ap (λ (y : ℕ). size * y) many ∙ mul_comm size (length after / size)) h)

    fits : size * q + size ≤ length after
    fits = omega (arith, mul-suc size q, mul-le-mul_left size whole, mul-div-le (length after) size)

    long : length part ≡ size
    long = length-take-le size (drop (size * q) after) (rw length-drop (omega (arith, fits)))

    at : (y : ℕ) → y < size → get_or part y 0 ≡ get_or after (size * q + y) 0
    at y l = get_or-take size (drop (size * q) after) y 0 l ∙ get_or-drop (size * q) after y 0

    pub byte_inside : get_or after x 0 ≡ byte_of (get_or ws q 0) (x % size)
    byte_inside =
        ap (λ (y : ℕ). get_or after y 0) (sym (div-add-mod x size))
        ∙ sym (at (x % size) (mod-lt x some))
        ∙ byte_value part (λ y l. rw (at y (subst (λ (n : ℕ). y < n) long l)) (f (size * q + y))) (x % size) (rw long (mod-lt x some))
        ∙ ap (λ (v : ℕ). byte_of v (x % size)) (sym (ap (λ (l : List ℕ). get_or l q 0) (sym e) ∙ first_at size (length after / size) after q whole))

pub unpacked : (size : ℕ) → 0 < size → (ws before after : List ℕ) → Bytes after → length after ≡ length before → words size after ≡ ws
    → ((x : ℕ) → size * length ws ≤ x → get_or after x 0 ≡ get_or before x 0) → Unpacked size ws before after
unpacked size some ws before after f l e g = record { long = l; inside = byte_inside size some ws after f e; behind = g }

-- one list of bytes only
pub unpacked_only : (size : ℕ) (ws before a b : List ℕ) → Unpacked size ws before a → Unpacked size ws before b → a ≡ b
unpacked_only size ws before a b p q = ext_get_or 0 a b (p.long ∙ sym q.long) (λ x _. ⊎_elim
    (λ (l : x < size * length ws). p.inside x l ∙ sym (q.inside x l))
    (λ (l : size * length ws ≤ x). p.behind x l ∙ sym (q.behind x l))
    (lt_or_ge x (size * length ws)))
