-- One split after the other: where the two parts' words stand, and the sum so far.
-- Assumes nothing.
use mathlib.Core.Path.{◌≡◌, sym}
use mathlib.Core.List.{List}
use Prim.Native.Nat.{ℕ, ◌+◌, ◌*◌, ◌≤◌, ◌<◌}
use native.Mathlib.Nat.{le_refl, le_of_lt, mul-le-mul, le_trans, lt_of_lt_of_le}
use native.Mathlib.Omega.{arith}
use lib.ListN.{length, get_or}
use Rattle.bits.specs.Sum.{between}
use Rattle.bits.proofs.Sums.{between_none, between_more, between_le}
use Rattle.table.specs.Table.{limit, held, slot_of, table_words}
use Rattle.table.specs.Fill.{split_adds, InReach}
use Rattle.table.proofs.Slots.{slot_left, slot_right, slot_fits, words_small}

module _ (t : List ℕ) (N B C i k : ℕ) where
  pub split_small : (j : ℕ) → split_adds t N B C i k j ≤ limit
  unfolding split_adds
  split_small j = omega arith

  -- before the split j
  pub record Walk (first second step total j : ℕ) : Type 0 where
    pub low : i < j
    pub high : j ≤ k
    pub left : first ≡ slot_of N B i j
    pub right : second ≡ slot_of N C j k
    pub stride : step ≡ j * N
    pub sum : total ≡ between i j (split_adds t N B C i k)

  pub walk_start : (first second step : ℕ) → i < k → first ≡ slot_of N B i (i + 1) → second ≡ slot_of N C (i + 1) k → step ≡ (i + 1) * N
      → Walk first second step 0 (i + 1)
  walk_start first second step h a b c = record {
    low = omega arith;
    high = omega arith;
    left = a;
    right = b;
    stride = c;
    sum = sym (between_none i (i + 1) _ (omega arith));
  }

  module _ (r : InReach t N B C i k) (first second step total j : ℕ) (v : Walk first second step total j) where
    first_in : first < table_words N k
    first_in = rw v.left (slot_fits N B i j k r.left v.low v.high)

    pub first_fits : first < length t
    first_fits = lt_of_lt_of_le first_in r.fits

    second_in : j < k → second < table_words N k
    second_in h = rw v.right (slot_fits N C j k k r.right h (le_refl k))

    pub second_fits : j < k → second < length t
    second_fits h = lt_of_lt_of_le (second_in h) r.fits

    step_small : step ≤ 65536 * 64
    step_small = rw v.stride (mul-le-mul {n₂ = 65536} {m₂ = 64} (le_trans v.high (le_of_lt r.few)) r.symbols)

    total_small : total ≤ 65536 * limit
    total_small =
        rw v.sum
        (le_trans (between_le i j limit _ (λ x a b. split_small x)) (mul-le-mul {n₂ = 65536} {m₂ = limit} (let a = v.high in let b = r.few in omega arith) (le_refl limit)))

    -- nothing that the loop adds up runs over
    pub record Small : Type 0 where
      pub next_first : first + step < 2 * 64 * 4294967296
      pub next_second : j < k → second + N < 2 * 64 * 4294967296
      pub sum : total ≤ 65536 * limit

    pub small : Small
    small =
        let m = words_small N k r.symbols r.few in
        let a = first_in in
        let b = step_small in
        let c = r.symbols in
        record {
          next_first = omega arith;
          next_second = λ h. let d = second_in h in omega arith;
          sum = total_small;
        }

    pub walk_step : (x : ℕ) → j < k → x ≡ held (get_or t first 0 * get_or t second 0) → Walk (first + step) (second + N) (step + N) (total + x) (j + 1)
    unfolding split_adds
    walk_step x h e = record {
      low = omega (arith, v.low);
      high = omega arith;
      left = rw (v.left, v.stride) (sym (slot_left N B i j));
      right = rw v.right (sym (slot_right N C j k));
      stride = rw v.stride (omega arith);
      sum = rw (between_more i j (split_adds t N B C i k) v.low, ← v.sum, ← v.left, ← v.right, ← e);
    }
