-- Words that are stored in bytes one after the other.
-- Assumes nothing.
use mathlib.Core.Path.{◌≡◌, refl, sym, ap, ◌∙◌, subst}
use mathlib.Core.Logic.{⊎_elim}
use mathlib.Core.List.{List, ◌++◌}
use Prim.Native.Nat.{ℕ, ◌+◌, ◌-◌, ◌*◌, ◌/◌, ◌≤◌, ◌<◌}
use native.Mathlib.Nat.{mul-suc, mul_comm, mul-le-mul_left, le-div_iff_mul-le}
use native.Mathlib.Omega.{arith}
use lib.ListN.{length, get_or, take, drop, length-take, length-drop, length-append, get_or-append}
use lib.Seq.{length-take-le, get_or-take, get_or-drop, get_or-append-add, ext_get_or}
use borrow.Rule.Slice.PartMut.{put_mid, same_len_mid}
use Rattle.std.specs.Prelude.{map}
use Rattle.std.proofs.lemmas.List.{map-id, take-take}
use Rattle.std.proofs.lemmas.Slice.{between-put_mid, take-put_mid_below, drop-put_mid}
use Rattle.bits.specs.Frame.{Framed}
use Rattle.bits.proofs.Frames.{framed_none, framed_wider, framed_within}
use Rattle.bits.proofs.Truths.{lt_or_ge}
use Rattle.packed.specs.Packed.{value, words}
use Rattle.packed.specs.Put.{PutWord, PutWords}
use Rattle.packed.proofs.Words.{length_words, first_at}

-- bytes that agree from a place on, so many of them
pub part_same : (a b : List ℕ) (at n : ℕ) → length a ≡ length b → ((y : ℕ) → at ≤ y → y < at + n → get_or a y 0 ≡ get_or b y 0) → take n (drop at a) ≡ take n (drop at b)
part_same a b at n e f = ext_get_or 0 _ _ (rw (length-take, length-take, length-drop, length-drop, e) refl) go
  where
    go : (i : ℕ) → i < length (take n (drop at a)) → get_or (take n (drop at a)) i 0 ≡ get_or (take n (drop at b)) i 0
    go i h =
        let l : i < n = omega (arith, rw length-take at h) in
        get_or-take n (drop at a) i 0 l ∙ get_or-drop at a i 0 ∙ f (at + i) (omega arith) (omega (arith, l)) ∙ sym (get_or-take n (drop at b) i 0 l ∙ get_or-drop at b i 0)

-- ---- a word's bytes, in the place of as many others
pub put_bytes : (a bs : List ℕ) (at k size w : ℕ) → k ≡ size → at + size ≤ length a → length bs ≡ size → value bs ≡ w → PutWord size at w a (put_mid at k a bs)
put_bytes a bs at k size w z h e v = record {
  frame = record {
    long = same_len_mid at k a bs (e ∙ sym z ∙ sym (length-take-le k (drop at a) (rw length-drop (omega arith))));
    before = λ y l. sym (get_or-take at _ y 0 l) ∙ ap (λ (q : List ℕ). get_or q y 0) (take-put_mid_below at k a bs at (omega arith) (omega arith)) ∙ get_or-take at a y 0 l;
    after = λ y l.
        let later : at + size + (y - (at + size)) ≡ y = omega arith in
        subst (λ (x : ℕ). get_or (put_mid at k a bs) x 0 ≡ get_or a x 0) later
        (sym (get_or-drop (at + size) _ (y - (at + size)) 0)
        ∙ ap (λ (q : List ℕ). get_or q (y - (at + size)) 0) (drop-put_mid at k a bs (at + size) (omega arith) (omega arith) (e ∙ sym z))
        ∙ get_or-drop (at + size) a (y - (at + size)) 0);
  };
  shown =
      let part : at + size - at ≡ size = omega arith in
      ap value (ap (λ (n : ℕ). take n (drop at (put_mid at k a bs))) (sym part) ∙ between-put_mid at k a bs (at + size) (omega arith) (e ∙ sym part)) ∙ v;
}

-- ---- words stored one by one: the first i of ws
pub record Standing (size i : ℕ) (ws before after : List ℕ) : Type 0 where
  pub frame : Framed before after 0 (size * i)
  pub at : (x : ℕ) → x < i → value (take size (drop (size * x) after)) ≡ get_or ws x 0

pub standing_none : (size : ℕ) (ws l : List ℕ) → Standing size 0 ws l l
standing_none size ws l = record { frame = framed_none l 0 (size * 0); at = λ x h. absurd (omega (arith, h)) }

-- the words before the place of word i end where it begins
pub ends : (size x i : ℕ) → x < i → size * x + size ≤ size * i
ends size x i h = rw (← mul-suc size x) (mul-le-mul_left size h)

pub standing_more : (size i w : ℕ) (ws before mid after : List ℕ) → w ≡ get_or ws i 0 → Standing size i ws before mid → PutWord size (size * i) w mid after
    → Standing size (i + 1) ws before after
standing_more size i w ws before mid after e s p = record {
  frame =
      framed_within before mid after 0 (size * (i + 1)) (size * i) size (omega arith) (omega (arith, ends size i (i + 1) (omega arith)))
      (framed_wider before mid 0 (size * i) (size * (i + 1)) (mul-le-mul_left size (omega arith)) s.frame) p.frame;
  at = λ x h. ⊎_elim (λ (l : x < i). old x l) (λ (l : i ≤ x). let z : x ≡ i = omega (arith, h, l) in rw z (p.shown ∙ e)) (lt_or_ge x i);
}
  where
    old : (x : ℕ) → x < i → value (take size (drop (size * x) after)) ≡ get_or ws x 0
    old x l = ap value (part_same after mid (size * x) size p.frame.long (λ y a b. p.frame.before y (omega (arith, b, ends size x i l)))) ∙ s.at x l

-- ---- all of them
-- some words in front of those of a list
module _ (n : ℕ) (ws W : List ℕ) (enough : n ≤ length ws) (x : ℕ) where
  front : x < n → get_or (take n ws ++ drop n W) x 0 ≡ get_or ws x 0
  front l = get_or-append (take n ws) (drop n W) 0 x (rw (length-take-le n ws enough) l) ∙ get_or-take n ws x 0 l

  later : n ≤ x → get_or (take n ws ++ drop n W) x 0 ≡ get_or W x 0
  later l =
      let z : x ≡ length (take n ws) + (x - n) = rw (length-take-le n ws enough) (omega (arith, l)) in
      ap (λ (y : ℕ). get_or (take n ws ++ drop n W) y 0) z
      ∙ get_or-append-add (take n ws) (drop n W) (x - n) 0
      ∙ get_or-drop n W (x - n) 0
      ∙ ap (λ (y : ℕ). get_or W y 0) (omega (arith, l))

module _ (size n : ℕ) (ws before after : List ℕ) (some : 0 < size) (fit : size * n ≤ length before) (enough : n ≤ length ws) (s : Standing size n ws before after) where
  abbrev m : ℕ
  m = length before / size

  few : n ≤ m
  few = (le-div_iff_mul-le some).1 (subst (λ (x : ℕ). x ≤ length before) (mul_comm size n) fit)

  lengths : length (words size after) ≡ length (take n ws ++ drop n (words size before))
  lengths = rw (length_words, s.frame.long, length-append, length-drop, length_words, length-take-le n ws enough) (omega (arith, few))

  word : (x : ℕ) → x < m → get_or (words size after) x 0 ≡ value (take size (drop (size * x) after))
  word x h = first_at size _ after x (rw s.frame.long h)

  each : (x : ℕ) → x < m → get_or (words size after) x 0 ≡ get_or (take n ws ++ drop n (words size before)) x 0
  each x h = ⊎_elim
      (λ (l : x < n). word x h ∙ s.at x l ∙ sym (front n ws (words size before) enough x l))
      (λ (l : n ≤ x). word x h
      ∙ ap value (part_same after before (size * x) size s.frame.long (λ y a b. s.frame.after y (omega (arith, a, mul-le-mul_left size l))))
      ∙ sym (first_at size m before x h) ∙ sym (later n ws (words size before) enough x l))
      (lt_or_ge x n)

  all : PutWords size n ws before after
  all = record { frame = s.frame; shown = ext_get_or 0 _ _ lengths (λ x h. each x (rw (length_words, s.frame.long) at h)) }

pub put_all : (size i n : ℕ) (ws before after : List ℕ) → i ≡ n → 0 < size → size * n ≤ length before → n ≤ length ws → Standing size i ws before after
    → PutWords size n ws before after
put_all size i n ws before after e some fit enough s = all size n ws before after some fit enough (subst (λ (x : ℕ). Standing size x ws before after) e s)

-- ---- what they show
module _ (size n : ℕ) (ws before after : List ℕ) (enough : n ≤ length ws) (p : PutWords size n ws before after) where
  pub put_at : (x : ℕ) → x < n → get_or (words size after) x 0 ≡ get_or ws x 0
  put_at x h = ap (λ (l : List ℕ). get_or l x 0) p.shown ∙ front n ws (words size before) enough x h

  pub put_frame : Framed (words size before) (words size after) 0 n
  put_frame = record {
    long = length_words size after ∙ ap (λ (m : ℕ). m / size) p.frame.long ∙ sym (length_words size before);
    before = λ x h. absurd (omega (arith, h));
    after = λ x h. ap (λ (l : List ℕ). get_or l x 0) p.shown ∙ later n ws (words size before) enough x (omega (arith, h));
  }

-- ---- the first words of a list
pub put_front : (size m n : ℕ) (ws before after : List ℕ) → m ≡ n → n ≤ length ws → PutWords size (length (take m ws)) (map (λ (w : ℕ). w) (take m ws)) before after
    → PutWords size n ws before after
put_front size m n ws before after e enough p =
    let long : length (take m ws) ≡ n = length-take-le m ws (omega arith) ∙ e in
    record {
      frame = rw long at p.frame;
      shown = p.shown
          ∙ ap (λ (l : List ℕ). take (length (take m ws)) l ++ drop (length (take m ws)) (words size before)) (map-id (take m ws))
          ∙ rw (long, e) (ap (λ (l : List ℕ). l ++ drop n (words size before)) (take-take n n ws (omega arith)));
    }
