-- Where the words of the table are: those of a cell before those of the next, all within the words that are needed, each of which is some cell's.
-- Assumes nothing.
use Prim.Native.Nat.{ℕ, ◌+◌, ◌*◌, ◌/◌, ◌%◌, ◌≤◌, ◌<◌}
use native.Mathlib.Omega.{arith}
use native.Mathlib.Nat.{mul-le-mul, mul-le-mul_right, mul-le-mul_left, eq-or-lt_of_le, le_refl, mul_comm, div-add-mod', mod-lt, div-lt_iff_lt-mul}
use mathlib.Core.Path.{◌≡◌}
use mathlib.Core.Logic.{⊎_elim}
use Rattle.derivation.specs.Chart.{cell_at, cells}
use Rattle.derivation.proofs.Columns.{before_more, before_mono, cells_column, cells_small, cell_within, cell_of}
use Rattle.table.specs.Table.{slot_of, table_words}

module _ (N : ℕ) where
  -- a cell's words end where the next cell's begin or before
  next : (c d : ℕ) → c < d → c * N + N ≤ d * N
  next c d h = let t = mul-le-mul_right {m = c + 1} {n = d} N (omega arith) in omega arith

  pub slot_word : (A i k : ℕ) → slot_of N 0 i k + A ≡ slot_of N A i k
  slot_word A i k = omega arith

  pub slot_before : (A a b i k : ℕ) → A < N → a < b → b < k → slot_of N A a b < slot_of N 0 i k
  slot_before A a b i k s l h = let t = next (cell_at a b) (cell_at i k) (omega (arith, before_mono b k h)) in omega arith

  pub slot_after : (A i j k : ℕ) → i < j → slot_of N 0 i k + N ≤ slot_of N A j k
  slot_after A i j k l = let t = next (cell_at i k) (cell_at j k) (omega arith) in omega arith

  cells_on : (k n : ℕ) → k ≤ n → cells k ≤ cells n
  cells_on k n h = rw (cells_column k, cells_column n) (⊎_elim
      (λ (e : k ≡ n). rw e (le_refl _)) (λ (l : k < n). omega (arith, before_mono (k + 1) (n + 1) (omega arith))) (eq-or-lt_of_le h))

  pub words_on : (k n : ℕ) → k ≤ n → table_words N k ≤ table_words N n
  words_on k n h = mul-le-mul_left N (cells_on k n h)

  pub cell_fits : (i k n : ℕ) → i < k → k ≤ n → slot_of N 0 i k + N ≤ table_words N n
  cell_fits i k n l h = let t = next (cell_at i k) (cells n) (cell_within n i k l h) in rw (mul_comm N (cells n)) (omega arith)

  pub slot_fits : (A i k n : ℕ) → A < N → i < k → k ≤ n → slot_of N A i k < table_words N n
  slot_fits A i k n s l h = let t = cell_fits i k n l h in omega arith

  -- one split further: the left part's cell is j cells on, and the right part's is the next
  pub slot_left : (B i j : ℕ) → slot_of N B i (j + 1) ≡ slot_of N B i j + j * N
  slot_left B i j = rw (before_more j) (omega arith)

  pub slot_right : (C j k : ℕ) → slot_of N C (j + 1) k ≡ slot_of N C j k + N
  slot_right C j k = omega arith

  -- words are numbered far below what a machine word holds
  pub words_small : (n : ℕ) → N ≤ 64 → n < 65536 → table_words N n < 64 * 4294967296
  words_small n a b = let c : cells n ≤ 4294967295 = omega (arith, cells_small n b) in omega (arith, mul-le-mul a c)

-- a word that is needed is the word of a symbol over a stretch
pub record Slot (N n x : ℕ) : Type 0 where
  pub A : ℕ
  pub i : ℕ
  pub k : ℕ
  pub symbol : A < N
  pub low : i < k
  pub high : k ≤ n
  pub is : slot_of N A i k ≡ x

pub slot_of_is : (N n x : ℕ) → 0 < N → x < table_words N n → Slot N n x
slot_of_is N n x pos h =
    let r = cell_of n (x / N) ((div-lt_iff_lt-mul pos).1 (rw (mul_comm N (cells n)) at h)) in
    record { A = x % N; i = r.i; k = r.k; symbol = mod-lt x pos; low = r.lt; high = r.le; is = rw (← r.is) (div-add-mod' x N) }
