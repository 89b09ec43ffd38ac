-- The fewest digits that hold a number, as `io::decimal` writes them, are its text, and no more than it needs.
-- Assumes nothing.
use Prim.Native.Nat.{ℕ, zero, suc, ◌+◌, ◌-◌, ◌/◌, ◌%◌, ◌^◌, ◌≤◌, ◌<◌}
use mathlib.Core.Path.{◌≡◌, refl, ap}
use mathlib.Core.Bool.{cond}
use native.Mathlib.Omega.{arith}
use native.Mathlib.Nat.{pow-suc, mod-eq_of_lt, mod-lt, div-lt_iff_lt-mul, le-div_iff_mul-le, one-le-pow, not-suc-le-zero, le_refl}
use native.Mathlib.Numerals.{sub-one}
use lib.Dec.{lit<}
use lib.ListN.{length, length-append}
use borrow.Author.Tests.{lt-ltb, le-ltb}
use Rattle.io.specs.Digits.{last_digits, hex_digit_ascii, IsDigitCount}
use Rattle.text.specs.Text.{text, text_by}
use Rattle.text.proofs.Short.{short_by}

glyph_digit : (n : ℕ) → n < 10 → hex_digit_ascii n ≡ 48 + n
glyph_digit n h = ap (λ t. cond t (48 + n) (87 + n)) (lt-ltb n 10 h)

fewest_by : (r f n : ℕ) → r ≤ f → IsDigitCount 10 1 n r → last_digits 10 r n ≡ text_by f n
unfolding text_by
fewest_by zero f n le h = absurd (not-suc-le-zero h.0)
fewest_by (suc zero) zero n le h = absurd (not-suc-le-zero le)
fewest_by (suc zero) (suc f) n le h =
    let small : n < 10 = h.1 in
    rw (lt-ltb n 10 small, mod-eq_of_lt small, glyph_digit n small)
fewest_by (suc (suc k)) zero n le h = absurd (not-suc-le-zero le)
fewest_by (suc (suc k)) (suc f) n le h =
    let low : 10 ^ suc k ≤ n = rw sub-one at (h.2 (omega arith)) in
    let pos : 1 ≤ 10 ^ k = one-le-pow k 10 (lit< tt) in
    let big : 10 ≤ n = omega (arith, pow-suc 10 k) in
    let up : n / 10 < 10 ^ suc k = (div-lt_iff_lt-mul {k = 10} {x = n} {y = 10 ^ suc k} (lit< tt)).1 (rw pow-suc at h.1) in
    let down : (1 < suc k) → 10 ^ (suc k - 1) ≤ n / 10 = λ _. rw sub-one ((le-div_iff_mul-le {k = 10} {x = 10 ^ k} {y = n} (lit< tt)).1 (rw pow-suc at low)) in
    let ih : last_digits 10 (suc k) (n / 10) ≡ text_by f (n / 10) = fewest_by (suc k) f (n / 10) (omega arith) (omega arith, up, down) in
    rw (le-ltb n 10 big, ih, glyph_digit (n % 10) (mod-lt n (lit< tt)))

pub fewest_text : (n r : ℕ) → r ≤ 20 → IsDigitCount 10 1 n r → last_digits 10 r n ≡ text n
unfolding text
fewest_text n r le h = fewest_by r 20 n le h

length_digits : (r n : ℕ) → length (last_digits 10 r n) ≡ r
length_digits zero n = refl
length_digits (suc r) n = rw (length-append, length_digits r (n / 10)) (omega arith)

pub fewest_short : (k n r : ℕ) → 0 < k → n < 10 ^ k → IsDigitCount 10 1 n r → r ≤ k
fewest_short k n r pos h few =
    let e : length (text_by r n) ≡ r = rw (← (fewest_by r r n (le_refl r) few)) (length_digits r n) in
    omega (arith, short_by r k n pos h)
