-- Marks as words: a word that gets a split more is one symbol's in one block, so that nothing else is marked; the last words of a block
-- tell what its others hold; and what two words share is where both symbols stand.
-- Assumes nothing.
use mathlib.Core.Path.{◌≡◌, refl, sym, ap, ap₂, ◌∙◌}
use mathlib.Core.Logic.{◌≢◌, ◌⊎◌, inl, inr}
use mathlib.Core.List.{List}
use Prim.Native.Nat.{ℕ, zero, suc, ◌+◌, ◌-◌, ◌*◌, ◌/◌, ◌%◌, ◌^◌, ◌≤◌, ◌<◌, max, min}
use native.Mathlib.Nat.{mod-lt, zero-lt-suc, div-add-mod, div-lt_iff_lt-mul, div-eq_of_lt, mod-eq_of_lt, mul-add-div, mul-add-mod_self_left, sub-zero, add-zero, zero-add, mul-zero, max-zero}
use native.Mathlib.Decide.{ℕ_discrete}
use native.Mathlib.Omega.{arith}
use lib.Bits.{bit_and, bit_or}
use lib.ListN.{length, get_or, set, replicate, length-set}
use lib.Seq.{get_or-set_same, get_or-set_other}
use Rattle.bits.specs.Truth.{same}
use Rattle.bits.specs.Sum.{sum}
use Rattle.bits.specs.Bit.{bit}
use Rattle.bits.specs.Word.{Without}
use Rattle.bits.proofs.Truths.{same_refl, same_eq, same_other, same_lt}
use Rattle.bits.proofs.Sums.{sum_cong, sum_zero, sum_split, product_le}
use Rattle.bits.proofs.Bits.{bit_lt, bit_or_is, bit_and_is, bit_one, bit_of_zero}
use Rattle.bits.proofs.Words.{zeros}
use Rattle.marks.specs.Mark.{split, stands, meetings, Apart, SeenIn, CommonIs, Told, Entered, Marked}

-- ---- a split's word and bit
pub half_lt : (j : ℕ) → j < 128 → j / 64 < 2
half_lt j l = (div-lt_iff_lt-mul (zero-lt-suc 63)).1 l

pub rest_lt : (j : ℕ) → j % 64 < 64
rest_lt j = mod-lt j (zero-lt-suc 63)

-- 0 or 1
pub split_lt : (t : List ℕ) (from j : ℕ) → split t from j < 2
unfolding split
split_lt t from j = bit_lt _ _

half_of : (half x : ℕ) → x < 64 → (64 * half + x) / 64 ≡ half
half_of half x h = mul-add-div (zero-lt-suc 63) half x ∙ ap (λ (y : ℕ). half + y) (div-eq_of_lt h) ∙ add-zero half

same_rest : (j x : ℕ) → j / 64 ≡ x / 64 → same (j % 64) (x % 64) ≡ same j x
same_rest j x e = elim (ℕ_discrete j x) [
  | yes p ↦ rw p (same_refl (x % 64) ∙ sym (same_refl x))
  | no n ↦ same_other _ _ (λ p. n (omega (arith, div-add-mod j 64, div-add-mod x 64))) ∙ sym (same_other j x n)
]

-- ---- a word that gets bits more
module _ (t u : List ℕ) (at more : ℕ) (is : u ≡ set t at (bit_or (get_or t at 0) more)) (within : at < length t) where
  pub join_long : length u ≡ length t
  join_long = ap length is ∙ length-set t at _

  pub join_other : (y : ℕ) → y ≢ at → get_or u y 0 ≡ get_or t y 0
  join_other y n = ap (λ (l : List ℕ). get_or l y 0) is ∙ get_or-set_other t at y _ 0 n

  join_here : (b : ℕ) → bit (get_or u at 0) b ≡ max (bit (get_or t at 0) b) (bit more b)
  join_here b = ap (λ (l : List ℕ). bit (get_or l at 0) b) is ∙ ap (λ (x : ℕ). bit x b) (get_or-set_same t at _ 0 within) ∙ bit_or_is (get_or t at 0) more b

  pub join_grows : (y b : ℕ) → bit (get_or t y 0) b ≤ bit (get_or u y 0) b
  join_grows y b = elim (ℕ_discrete y at) [
    | yes e ↦ rw e (omega (arith, join_here b))
    | no n ↦ omega (arith, ap (λ (x : ℕ). bit x b) (join_other y n))
  ]

  pub join_has : (b : ℕ) → bit more b ≤ bit (get_or u at 0) b
  join_has b = omega (arith, join_here b)

  -- the word of symbol a in block r gets split j
  module _ (r a j : ℕ) (small : a < 64) (few : j < 128) (where-is : at ≡ 131 * r + 2 * a + j / 64) (one : more ≡ 2 ^ (j % 64)) where
    pub entered : (q b x : ℕ) → b < 64 → x < 128 → stands u q b x ≡ max (stands t q b x) (same r q * same j x * same a b)
    unfolding split
    entered q b x l h = elim (ℕ_discrete (131 * q + 2 * b + x / 64) at) [ yes e ↦ here e | no n ↦ there n ]
      where
        here : 131 * q + 2 * b + x / 64 ≡ at → bit (get_or u (131 * q + 2 * b + x / 64) 0) (x % 64)
            ≡ max (bit (get_or t (131 * q + 2 * b + x / 64) 0) (x % 64)) (same r q * same j x * same a b)
        here e =
            let blocks : r ≡ q = omega (arith, half_lt j few, half_lt x h) in
            let symbols : a ≡ b = omega (arith, half_lt j few, half_lt x h) in
            let halves : j / 64 ≡ x / 64 = omega (arith, half_lt j few, half_lt x h) in
            ap (λ (y : ℕ). bit (get_or u y 0) (x % 64)) e ∙ join_here (x % 64)
            ∙ ap₂ max (ap (λ (y : ℕ). bit (get_or t y 0) (x % 64)) (sym e))
            (ap (λ (m : ℕ). bit m (x % 64)) one ∙ bit_one (j % 64) (x % 64) ∙ same_rest j x halves
            ∙ omega (arith, product (same r q) (same j x) (same a b) (same_eq r q blocks) (same_eq a b symbols)))
          where
            product : (x y z : ℕ) → x ≡ 1 → z ≡ 1 → x * y * z ≡ y
            product x y z e f = rw (e, f) (omega arith)

        there : 131 * q + 2 * b + x / 64 ≢ at → bit (get_or u (131 * q + 2 * b + x / 64) 0) (x % 64)
            ≡ max (bit (get_or t (131 * q + 2 * b + x / 64) 0) (x % 64)) (same r q * same j x * same a b)
        there n = ap (λ (w : ℕ). bit w (x % 64)) (join_other _ n) ∙ sym (max-zero _) ∙ ap (max _) (sym (apart (ℕ_discrete r q) (ℕ_discrete j x) (ℕ_discrete a b)))
          where
            apart : Dec (r ≡ q) → Dec (j ≡ x) → Dec (a ≡ b) → same r q * same j x * same a b ≡ 0
            apart (no m) _ _ = rw (same_other r q m) (omega arith)
            apart (yes _) (no m) _ = rw (same_other j x m) (omega arith)
            apart (yes _) (yes _) (no m) = rw (same_other a b m) (omega arith)
            apart (yes e) (yes f) (yes g) = absurd (n (rw (e, f, g) at (sym where-is)))

-- ---- the last words of a block are none of its symbols'
last_other : (q a x r y : ℕ) → a < 64 → x < 128 → 128 ≤ y → y < 131 → 131 * q + 2 * a + x / 64 ≢ 131 * r + y
last_other q a x r y small few from to e =
    let blocks : q ≡ r = omega (arith, half_lt x few) in omega (arith, half_lt x few)

-- ---- the symbols of w but those of rest are entered
module _ (t : List ℕ) (r j w : ℕ) where
  pub record Part (u : List ℕ) (rest : ℕ) : Type 0 where
    pub long : length u ≡ length t
    pub part : (s : ℕ) → bit rest s ≤ bit w s
    pub at : (q a x : ℕ) → a < 64 → x < 128 → stands u q a x ≡ max (stands t q a x) (same r q * same j x * (bit w a - bit rest a))
    pub last : (q y : ℕ) → 128 ≤ y → y < 131 → get_or u (131 * q + y) 0 ≡ get_or t (131 * q + y) 0

  pub part_start : Part t w
  part_start = record {
    long = refl;
    part = λ s. omega arith;
    at = λ q a x l h. let z : bit w a - bit w a ≡ 0 = omega arith in rw z (omega arith);
    last = λ q y l h. refl;
  }

  module _ (u v : List ℕ) (rest a less at more : ℕ) (was : Part u rest) (fits : 131 * r + 131 ≤ length t) (small : a < 64) (few : j < 128)
      (n : Without rest a less) (where-is : at ≡ 131 * r + j / 64 + 2 * a) (one : more ≡ 2 ^ (j % 64))
      (is : v ≡ set u at (bit_or (get_or u at 0) more)) where
    within : at < length u
    within = omega (arith, was.long, half_lt j few)

    place : at ≡ 131 * r + 2 * a + j / 64
    place = omega arith

    pub part_step : Part v less
    part_step = record {
      long = join_long u v at more is within ∙ was.long;
      part = λ s. omega (arith, was.part s, n.bits s);
      at = λ q b x l h.
          entered u v at more is within r a j small few place one q b x l h
          ∙ ap (λ (y : ℕ). max y (same r q * same j x * same a b)) (was.at q b x l h)
          ∙ gather (stands t q b x) (same r q * same j x) (bit w b) (bit rest b) (bit less b) (same a b)
          (product_le _ _ (same_lt r q) (same_lt j x)) (was.part b) (n.bits b) (bit_lt w b);
      last = λ q y l h. join_other u v at more is within _ (λ e. last_other r a j q y small few l h (sym place ∙ sym e)) ∙ was.last q y l h;
    }
      where
        gather : (s p w r l e : ℕ) → p ≤ 1 → r ≤ w → l + e ≡ r → w < 2 → max (max s (p * (w - r))) (p * e) ≡ max s (p * (w - l))
        gather s zero w r l e a b c d = omega arith
        gather s (suc zero) w r l e a b c d = omega arith
        gather s (suc (suc p)) w r l e a b c d = absurd (omega arith)

  pub part_done : (u : List ℕ) (rest : ℕ) → rest ≡ 0 → Part u rest → Entered t u r j w
  part_done u rest z p = record {
    long = p.long;
    at = λ q a x l h. p.at q a x l h ∙ ap (λ (y : ℕ). max (stands t q a x) (same r q * same j x * (bit w a - y))) (ap (λ (y : ℕ). bit y a) z ∙ bit_of_zero a)
        ∙ ap (λ (y : ℕ). max (stands t q a x) (same r q * same j x * y)) (sub-zero (bit w a));
    last = p.last;
  }

-- ---- the last words of the block tell of the new marks
module _ (t u v x : List ℕ) (r j w at more : ℕ) (few : j < 128) (fits : 131 * r + 131 ≤ length t) (n : Entered t u r j w)
    (one : more ≡ 2 ^ (j % 64)) (where-is : at ≡ 131 * r + 128 + j / 64)
    (first : v ≡ set u at (bit_or (get_or u at 0) more)) (second : x ≡ set v (131 * r + 130) (bit_or (get_or v (131 * r + 130) 0) w)) where
  in_first : at < length u
  in_first = omega (arith, n.long, half_lt j few)

  in_second : 131 * r + 130 < length v
  in_second = omega (arith, join_long u v at more first in_first, n.long)

  -- no symbol's word is touched
  stays : (q a y : ℕ) → a < 64 → y < 128 → stands x q a y ≡ stands u q a y
  unfolding split
  stays q a y l h =
      ap (λ (z : ℕ). bit z (y % 64))
      (join_other v x (131 * r + 130) w second in_second _ (last_other q a y r 130 l h (omega arith) (omega arith))
      ∙ join_other u v at more first in_first _ (λ e. last_other q a y r (128 + j / 64) l h (omega arith) (omega (arith, half_lt j few)) (e ∙ omega arith)))

  grows : (q y b : ℕ) → 128 ≤ y → y < 131 → bit (get_or t (131 * q + y) 0) b ≤ bit (get_or x (131 * q + y) 0) b
  grows q y b l h =
      omega (
        arith,
        ap (λ (z : ℕ). bit z b) (n.last q y l h),
        join_grows u v at more first in_first (131 * q + y) b,
        join_grows v x (131 * r + 130) w second in_second (131 * q + y) b,
      )

  -- what is marked now was marked before, or is new
  older : (q a y : ℕ) → a < 64 → y < 128 → stands x q a y ≡ 1 → (stands t q a y ≡ 1) ⊎ ((r ≡ q) × (j ≡ y) × (bit w a ≡ 1))
  older q a y l h e = by_case (ℕ_discrete r q) (ℕ_discrete j y)
    where
      now : max (stands t q a y) (same r q * same j y * bit w a) ≡ 1
      now = sym (n.at q a y l h) ∙ sym (stays q a y l h) ∙ e

      old : same r q * same j y * bit w a ≡ 0 → stands t q a y ≡ 1
      old z = omega (arith, now)

      by_case : Dec (r ≡ q) → Dec (j ≡ y) → (stands t q a y ≡ 1) ⊎ ((r ≡ q) × (j ≡ y) × (bit w a ≡ 1))
      by_case (no m) _ = inl (old (rw (same_other r q m) (omega arith)))
      by_case (yes _) (no m) = inl (old (rw (same_other j y m) (omega arith)))
      by_case (yes p) (yes o) = elim (ℕ_discrete (bit w a) 0) [ yes z ↦ inl (old (rw z (omega arith))) | no m ↦ inr (p, o, omega (arith, bit_lt w a)) ]

  pub marked : Marked t x r j w
  unfolding split
  marked = record {
    long = join_long v x (131 * r + 130) w second in_second ∙ join_long u v at more first in_first ∙ n.long;
    at = λ q a y l h. stays q a y l h ∙ n.at q a y l h;
    told = λ told. record {
      some = λ q a y l h e. elim (older q a y l h e) [
        | inl o ↦ omega (arith, told.some q a y l h o, bit_lt (get_or x (131 * q + 128 + y / 64) 0) (y % 64), some_grows q y h)
        | inr o ↦ rw (← o.0, ← o.1) some_new
      ];
      seen = λ q a y l h e. elim (older q a y l h e) [
        | inl o ↦ omega (arith, told.seen q a y l h o, bit_lt (get_or x (131 * q + 130) 0) a, grows q 130 a (omega arith) (omega arith))
        | inr o ↦ rw (← o.0) (omega (arith, o.2, join_has v x (131 * r + 130) w second in_second a, bit_lt (get_or x (131 * r + 130) 0) a))
      ];
    };
  }
    where
      some_grows : (q y : ℕ) → y < 128 → bit (get_or t (131 * q + 128 + y / 64) 0) (y % 64) ≤ bit (get_or x (131 * q + 128 + y / 64) 0) (y % 64)
      some_grows q y h =
          let e : 131 * q + 128 + y / 64 ≡ 131 * q + (128 + y / 64) = omega arith in
          rw e (grows q (128 + y / 64) (y % 64) (omega arith) (omega (arith, half_lt y h)))

      some_new : bit (get_or x (131 * r + 128 + j / 64) 0) (j % 64) ≡ 1
      some_new =
          omega (
            arith,
            join_has u v at more first in_first (j % 64),
            ap (λ (y : ℕ). bit y (j % 64)) one,
            bit_one (j % 64) (j % 64),
            same_refl (j % 64),
            where_word,
            join_grows v x (131 * r + 130) w second in_second (131 * r + 128 + j / 64) (j % 64),
            bit_lt (get_or x (131 * r + 128 + j / 64) 0) (j % 64),
          )
        where
          where_word : bit (get_or v at 0) (j % 64) ≡ bit (get_or v (131 * r + 128 + j / 64) 0) (j % 64)
          where_word = ap (λ (y : ℕ). bit (get_or v y 0) (j % 64)) where-is

-- no symbol: nothing changes
pub none_marked : (t : List ℕ) (r j w : ℕ) → w ≡ 0 → Marked t t r j w
none_marked t r j w z = record {
  long = refl;
  at = λ q a y l h. sym (max-zero _) ∙ ap (max _) (rw (z, bit_of_zero a) (omega arith));
  told = λ told. told;
}

-- ---- without marks
pub unmarked : (n r a j : ℕ) → stands (replicate n 0) r a j ≡ 0
unfolding split
unmarked n r a j = ap (λ (x : ℕ). bit x (j % 64)) (zeros n _) ∙ bit_of_zero _

pub told_none : (n : ℕ) → Told (replicate n 0)
told_none n = record {
  some = λ r a j l h e. absurd (omega (arith, unmarked n r a j));
  seen = λ r a j l h e. absurd (omega (arith, unmarked n r a j));
}

-- ---- the marks of a block beside the column's
module _ (t : List ℕ) (r : ℕ) (u : List ℕ) where
  -- no split has a symbol in both
  pub apart_is : Told t → Told u → bit_and (get_or t (131 * r + 128) 0) (get_or u 128 0) ≡ 0 → bit_and (get_or t (131 * r + 128 + 1) 0) (get_or u 129 0) ≡ 0 → Apart t r u
  unfolding meetings split
  apart_is told own low high a c l m = sum_zero 128 _ (λ j h. go j h (ℕ_discrete (stands t r a j) 1) (ℕ_discrete (stands u 0 c j) 1))
    where
      at_half : (h : ℕ) → h < 2 → bit_and (get_or t (131 * r + 128 + h) 0) (get_or u (131 * 0 + 128 + h) 0) ≡ 0
      at_half zero o = rw (add-zero (131 * r + 128)) low
      at_half (suc zero) o = high
      at_half (suc (suc h)) o = absurd (omega arith)

      shared : (y z x : ℕ) → bit_and y z ≡ 0 → bit y x ≡ 1 → bit z x ≡ 1 → ⊥
      shared y z x e f g = omega (arith, bit_and_is y z x, ap (λ (w : ℕ). bit w x) e, bit_of_zero x)

      go : (j : ℕ) → j < 128 → Dec (stands t r a j ≡ 1) → Dec (stands u 0 c j ≡ 1) → stands t r a j * stands u 0 c j ≡ 0
      go j h (yes e) (yes f) = absurd (shared _ _ (j % 64) (at_half (j / 64) (half_lt j h)) (told.some r a j l h e) (own.some 0 c j m h f))
      go j h (no e) _ = let z : stands t r a j ≡ 0 = omega (arith, split_lt t (131 * r + 2 * a) j) in rw z (omega arith)
      go j h (yes _) (no f) = let z : stands u 0 c j ≡ 0 = omega (arith, split_lt u (131 * 0 + 2 * c) j) in rw z (omega arith)

  -- what two words share, and how much it is
  pub common_is : (a c half : ℕ) → CommonIs t r a u c half (bit_and (get_or t (131 * r + 2 * a + half) 0) (get_or u (2 * c + half) 0))
  unfolding split
  common_is a c half x h =
      let e = half_of half x h in
      let f : (64 * half + x) % 64 ≡ x = mul-add-mod_self_left 64 half x ∙ mod-eq_of_lt h in
      rw (e, f, zero-add (2 * c)) (bit_and_is _ _ x ∙ product _ _ (bit_lt _ x) (bit_lt _ x))
    where
      product : (y z : ℕ) → y < 2 → z < 2 → min y z ≡ y * z
      product zero z l m = omega arith
      product (suc zero) z l m = omega arith
      product (suc (suc y)) z l m = absurd (omega arith)

  -- the column has no split in that half
  pub none_common : (a c half : ℕ) → c < 64 → half < 2 → Told u → get_or u (128 + half) 0 ≡ 0 → CommonIs t r a u c half 0
  unfolding split
  none_common a c half l o told none x h =
      bit_of_zero x ∙ sym (ap (λ (y : ℕ). stands t r a (64 * half + x) * y) absent ∙ mul-zero _)
    where
      place : 131 * 0 + 128 + (64 * half + x) / 64 ≡ 128 + half
      place = ap (λ (y : ℕ). 128 + y) (half_of half x h)

      absent : stands u 0 c (64 * half + x) ≡ 0
      absent = elim (ℕ_discrete (stands u 0 c (64 * half + x)) 1) [
        | yes e ↦ absurd (omega (
          arith,
          told.some 0 c (64 * half + x) l (omega arith) e,
          ap (λ (y : ℕ). bit (get_or u y 0) ((64 * half + x) % 64)) place,
          ap (λ (y : ℕ). bit y ((64 * half + x) % 64)) none,
          bit_of_zero ((64 * half + x) % 64),
        ))
        | no n ↦ omega (arith, split_lt u (131 * 0 + 2 * c) (64 * half + x))
      ]

  pub meeting_is : (a c low high : ℕ) → CommonIs t r a u c 0 low → CommonIs t r a u c 1 high → sum 64 (bit low) + sum 64 (bit high) ≡ meetings t r a u c
  unfolding meetings
  meeting_is a c low high f g =
      ap₂ ◌+◌ (sum_cong 64 _ _ (λ x l. f x l ∙ ap (λ (y : ℕ). stands t r a y * stands u 0 c y) (zero-add x))) (sum_cong 64 _ _ g)
      ∙ sym (sum_split 64 64 (λ j. stands t r a j * stands u 0 c j))

-- all the symbols of a block
pub seen_is : (t : List ℕ) (r : ℕ) → Told t → SeenIn t r (get_or t (131 * r + 130) 0)
seen_is t r told a j l h = elim (ℕ_discrete (stands t r a j) 1) [
  | yes e ↦ omega (arith, told.seen r a j l h e)
  | no n ↦ omega (arith, split_lt t (131 * r + 2 * a) j)
]
