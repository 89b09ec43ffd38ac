-- The words of bytes: how many there are, and which each is.
-- Assumes nothing.
use mathlib.Core.Path.{◌≡◌, refl, sym, ap, ◌∙◌}
use mathlib.Core.List.{List, [], ◌∷◌, ◌++◌}
use Prim.Native.Nat.{ℕ, zero, suc, ◌+◌, ◌*◌, ◌/◌, ◌%◌, ◌^◌, ◌≤◌, ◌<◌}
use native.Mathlib.Nat.{mul-zero, mul-suc, add_comm, pow-zero, pow-suc, div-one, mod-one, mod-eq_of_lt, div-div-eq-div-mul}
use native.Mathlib.Omega.{arith}
use lib.Arith.{mod-mul}
use lib.ListN.{length, get_or, take, drop, length-drop}
use lib.Seq.{drop-drop, length-take-le}
use Rattle.std.specs.Int.{w16, byte_at, bytes_low_first, from_le_bytes}
use Rattle.std.specs.Simd.{first_chunks}
use Rattle.packed.specs.Packed.{value, first_words, words}

-- where word x + 1 begins
next_word : (size x : ℕ) → size + size * x ≡ size * suc x
next_word size x = add_comm size (size * x) ∙ sym (mul-suc size x)

pub first_none : (size : ℕ) (bs : List ℕ) → first_words size 0 bs ≡ []
unfolding first_words
first_none size bs = refl

pub length_first : (size n : ℕ) (bs : List ℕ) → length (first_words size n bs) ≡ n
unfolding first_words
length_first size zero bs = refl
length_first size (suc n) bs = ap suc (length_first size n (drop size bs))

pub length_words : (size : ℕ) (bs : List ℕ) → length (words size bs) ≡ length bs / size
length_words size bs = length_first size (length bs / size) bs

pub first_at : (size n : ℕ) (bs : List ℕ) (x : ℕ) → x < n → get_or (first_words size n bs) x 0 ≡ value (take size (drop (size * x) bs))
unfolding first_words
first_at size zero bs x h = absurd (omega (arith, h))
first_at size (suc n) bs zero h = rw mul-zero refl
first_at size (suc n) bs (suc x) h =
    first_at size n (drop size bs) x (omega (arith, h))
    ∙ ap (λ (l : List ℕ). value (take size l)) (drop-drop (size * x) size bs ∙ ap (λ (m : ℕ). drop m bs) (next_word size x))

-- one word more
pub first_more : (size n : ℕ) (bs : List ℕ) → first_words size (suc n) bs ≡ first_words size n bs ++ (value (take size (drop (size * n) bs)) ∷ [])
unfolding first_words
first_more size zero bs = rw mul-zero refl
first_more size (suc n) bs =
    ap (λ (l : List ℕ). value (take size bs) ∷ l)
    (first_more size n (drop size bs)
    ∙ ap (λ (l : List ℕ). first_words size n (drop size bs) ++ (value (take size l) ∷ [])) (drop-drop (size * n) size bs ∙ ap (λ (m : ℕ). drop m bs) (next_word size n)))

-- ---- the bytes of a number
byte_is : (i n : ℕ) → byte_at i n ≡ n / 256 ^ i % 256
byte_is zero n = rw (pow-zero, div-one) refl
byte_is (suc i) n = refl

some_pow : (k : ℕ) → 0 < 256 ^ k
some_pow zero = rw pow-zero (omega arith)
some_pow (suc k) = rw pow-suc (omega (arith, some_pow k))

value_low : (k i n : ℕ) → value (bytes_low_first i k n) ≡ n / 256 ^ i % 256 ^ k
unfolding value
value_low zero i n = rw (pow-zero, mod-one) refl
value_low (suc k) i n =
    let more : n / 256 ^ suc i ≡ n / 256 ^ i / 256 = rw (pow-suc, div-div-eq-div-mul) refl in
    let split : n / 256 ^ i % (256 ^ k * 256) ≡ (n / 256 ^ i / 256 % 256 ^ k) * 256 + n / 256 ^ i % 256 = mod-mul (n / 256 ^ i) (some_pow k) (omega arith) in
    rw (byte_is i n, value_low k (suc i) n, more, pow-suc, split) (omega arith)

pub value_bytes : (k n : ℕ) → n < 256 ^ k → value (bytes_low_first 0 k n) ≡ n
value_bytes k n h = value_low k 0 n ∙ rw (pow-zero, div-one) (mod-eq_of_lt h)

pub value_pair : (bs : List ℕ) → length bs ≡ 2 → value bs ≡ from_le_bytes w16 bs
unfolding value
value_pair [] h = absurd (omega (arith, h))
value_pair (a ∷ []) h = absurd (omega (arith, h))
value_pair (a ∷ b ∷ []) h = omega arith
value_pair (a ∷ b ∷ c ∷ bs) h = absurd (omega (arith, h))

pub chunk_at : (size n : ℕ) (bs : List ℕ) (x : ℕ) (d : List ℕ) → x < n → get_or (first_chunks size n bs) x d ≡ take size (drop (size * x) bs)
chunk_at size zero bs x d h = absurd (omega (arith, h))
chunk_at size (suc n) bs zero d h = rw mul-zero refl
chunk_at size (suc n) bs (suc x) d h =
    chunk_at size n (drop size bs) x d (omega (arith, h)) ∙ ap (take size) (drop-drop (size * x) size bs ∙ ap (λ (m : ℕ). drop m bs) (next_word size x))

-- word x is read from pair x
pub word_pair : (bs : List ℕ) (x n : ℕ) (pairs : List (List ℕ)) → x < n → 2 * n ≤ length bs → pairs ≡ first_chunks 2 n bs
    → from_le_bytes w16 (get_or pairs x []) ≡ value (take 2 (drop (2 * x) bs))
word_pair bs x n pairs h fit e =
    let is : get_or pairs x [] ≡ take 2 (drop (2 * x) bs) = ap (λ (l : List (List ℕ)). get_or l x []) e ∙ chunk_at 2 n bs x [] h in
    ap (from_le_bytes w16) is ∙ sym (value_pair (take 2 (drop (2 * x) bs)) (length-take-le 2 (drop (2 * x) bs) (rw length-drop (omega arith))))
