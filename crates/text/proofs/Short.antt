-- How long texts are: a number below 10 to the power of k has at most k digits, and a text ends as far behind its place as it is long.
-- Assumes nothing.
use Prim.Native.Nat.{ℕ, zero, suc, ◌+◌, ◌/◌, ◌^◌, ◌≤◌, ◌<◌}
use mathlib.Core.Path.{◌≡◌, ap}
use mathlib.Core.List.{List, ◌++◌}
use native.Mathlib.Decide.{dec_lt}
use native.Mathlib.Nat.{pow-suc, div-lt_iff_lt-mul, not-suc-le-zero}
use native.Mathlib.Omega.{arith}
use lib.Dec.{lit<}
use lib.ListN.{length, take, length-append}
use lib.Seq.{length-take-le}
use borrow.Author.Tests.{lt-ltb, le-ltb}
use Rattle.text.specs.Text.{text, text_by}

-- whatever the fuel
pub short_by : (fuel k n : ℕ) → 0 < k → n < 10 ^ k → length (text_by fuel n) ≤ k
unfolding text_by
short_by fuel zero n pos h = absurd (not-suc-le-zero pos)
short_by zero (suc k) n pos h = omega arith
short_by (suc fuel) (suc zero) n pos h = rw (lt-ltb n 10 h) (omega arith)
short_by (suc fuel) (suc (suc k)) n pos h =
    let less : n / 10 < 10 ^ suc k = (div-lt_iff_lt-mul {k = 10} {x = n} {y = 10 ^ suc k} (lit< tt)).1 (rw pow-suc at h) in
    let rest : length (text_by fuel (n / 10)) ≤ suc k = short_by fuel (suc k) (n / 10) (omega arith) less in
    elim (dec_lt n 10) [
      | yes small ↦ rw (lt-ltb n 10 small) (omega arith)
      | no big ↦ rw (le-ltb n 10 (omega arith), length-append) (omega arith)
    ]

pub text_short : (k n : ℕ) → 0 < k → n < 10 ^ k → length (text n) ≤ k
unfolding text
text_short k n pos h = short_by 20 k n pos h

-- t is written from the place at on, up to the place r
pub place_behind : (old new t : List ℕ) (at r : ℕ) → at ≤ length old → r ≤ length new → take r new ≡ take at old ++ t → r ≡ at + length t
place_behind old new t at r a b e =
    let long : length (take r new) ≡ length (take at old) + length t = rw (← length-append) (ap length e) in
    omega (arith, length-take-le r new b, length-take-le at old a)
