-- What is written: the lines of the scripts in a room one more at a time, of two files or of none; and one outcome only.
-- Assumes nothing.
use mathlib.Core.Path.{◌≡◌, refl, sym, ap, ap₂, subst, ◌∙◌}
use mathlib.Core.Logic.{⊎_elim}
use mathlib.Core.Bool.{Bool, true, false, ◌&&◌, true≢false}
use mathlib.Core.List.{List, [], ◌∷◌, ◌++◌, append_assoc, append-nil}
use Prim.Native.Nat.{ℕ, zero, suc, ◌+◌, ◌-◌, ◌*◌, ◌≤◌, ◌<◌}
use native.Mathlib.Nat.{zero-mul, suc-mul, mul-le-mul_right}
use native.Mathlib.Numerals.{add-one}
use native.Mathlib.Decide.{ℕ_discrete}
use native.Mathlib.Omega.{arith}
use lib.ListN.{length, get_or, take, drop, take-append-drop}
use lib.Seq.{take-suc, length-take-le}
use Rattle.bits.proofs.Truths.{lt_or_ge}
use Rattle.derivation.specs.Derivations.{join}
use Rattle.image.proofs.Refusals.{first_only}
use Rattle.image.proofs.Named.{names_same}
use Rattle.text.specs.Text.{line}
use Rattle.text.specs.Put.{Put}
use Rattle.text.proofs.Puts.{put_none, put_more, put_as}
use Rattle.listing.specs.Listing.{most_bytes, line_bytes, refused_line, lines, ListingIs, OutputIs, Written}

-- ---- lines
lines_more : (ss : List (List ℕ)) (s : List ℕ) → lines (ss ++ (s ∷ [])) ≡ lines ss ++ line s
unfolding lines
lines_more [] s = append-nil (line s)
lines_more (x ∷ ss) s = ap (λ (l : List ℕ). line x ++ l) (lines_more ss s) ∙ sym (append_assoc (line x) (lines ss) (line s))

-- the lines of the first c scripts, where f gives each of them
pub lines_each : (f : ℕ → List ℕ) (ss : List (List ℕ)) (c : ℕ) → c ≤ length ss → ((x : ℕ) → x < c → f x ≡ get_or ss x []) → join c (λ x. line (f x)) ≡ lines (take c ss)
unfolding join lines
lines_each f ss zero h e = refl
lines_each f ss (suc c) h e =
    ap₂ ◌++◌ (lines_each f ss c (omega arith) (λ x l. e x (omega arith))) (ap line (e c (omega arith)))
    ∙ sym (ap lines (take-suc ss c [] h) ∙ lines_more (take c ss) (get_or ss c []))

-- ---- a room with scripts of n words, one after the other
module _ (room : List ℕ) (n : ℕ) where
  abbrev lines_of : ℕ → List ℕ
  lines_of c = join c (λ x. line (take n (drop (x * n) room)))

  lines_next : (x : ℕ) → lines_of (x + 1) ≡ lines_of x ++ line (take n (drop (x * n) room))
  unfolding join
  lines_next x = rw add-one

  next_place : (x : ℕ) → (x + 1) * n ≡ x * n + n
  next_place x = ap (λ (m : ℕ). m * n) (add-one x) ∙ suc-mul x n

  -- after x lines: the next script stands from `from` on, and the last line ends at `end`
  pub record Listed (before : List ℕ) (at x from end : ℕ) (now : List ℕ) : Type 0 where
    pub place : from ≡ x * n
    pub small : end ≤ at + x * line_bytes
    pub put : Put (lines_of x) before at end now

  pub listed_start : (before : List ℕ) (at : ℕ) → Listed before at 0 0 at before
  unfolding join
  listed_start before at = record { place = sym (zero-mul n); small = omega arith; put = put_none before at }

  module _ (before : List ℕ) (at x from end : ℕ) (now : List ℕ) (v : Listed before at x from end now) where
    -- there is one script more
    pub listed_fits : (count : ℕ) → x < count → count * n ≤ length room → from + n ≤ length room
    listed_fits count h l = omega (arith, v.place, next_place x, mul-le-mul_right n next)
      where
        next : x + 1 ≤ count
        next = omega arith

    pub listed_step : (r : ℕ) (after : List ℕ) → r ≤ end + line_bytes → Put (line (take (from + n - from) (drop from room))) now end r after
        → Listed before at (x + 1) (from + n) r after
    listed_step r after l e = record {
      place = omega (arith, v.place, next_place x);
      small = let s = v.small in omega arith;
      put = put_as _ _ _ _ _ _ (ap (λ (t : List ℕ). lines_of x ++ t) same ∙ sym (lines_next x)) (put_more _ _ _ _ _ _ _ _ v.put e);
    }
      where
        size : from + n - from ≡ n
        size = omega arith

        same : line (take (from + n - from) (drop from room)) ≡ line (take n (drop (x * n) room))
        same = rw (size, v.place)

-- ---- of two files
-- of a file that could not be read the bytes do not count, so that they may be any
pub output_unread : (g h : Bool) (b c e f o : List ℕ) → (g ≡ true → b ≡ c) → (h ≡ true → e ≡ f) → OutputIs g b h e o → OutputIs g c h f o
output_unread true true b c e f o x y p = record { no_file = λ z. absurd (true≢false z); listed = λ t. subst (λ (u : List ℕ). ListingIs u f o) (x refl) (subst (λ (v : List ℕ). ListingIs b v o) (y refl) (p.listed t)) }
output_unread true false b c e f o x y p = record { no_file = p.no_file; listed = λ t. absurd (true≢false (sym t)) }
output_unread false h b c e f o x y p = record { no_file = p.no_file; listed = λ t. absurd (true≢false (sym t)) }

pub written_unread : (g h : Bool) (b c e f before after : List ℕ) (r : ℕ) → (g ≡ true → b ≡ c) → (h ≡ true → e ≡ f) → Written g b h e before r after → Written g c h f before r after
written_unread g h b c e f before after r x y p = record { short = p.short; enough = λ l. let a = p.enough l in (a.0, output_unread g h b c e f _ x y a.1); rest = p.rest }

-- ---- one outcome only
pub listing_only : (b e o u : List ℕ) → ListingIs b e o → ListingIs b e u → o ≡ u
listing_only b e o u p q = go (ℕ_discrete p.refusal 0)
  where
    s : p.refusal ≡ q.refusal
    s = first_only p.first q.first

    go : Dec (p.refusal ≡ 0) → o ≡ u
    go (yes z) = p.listed z ∙ sym (q.listed (sym s ∙ z))
    go (no z) = p.refused z ∙ ap₂ refused_line s (names_same s p.names q.names) ∙ sym (q.refused (λ f. z (s ∙ f)))

pub output_only : (g h : Bool) (b e o u : List ℕ) → OutputIs g b h e o → OutputIs g b h e u → o ≡ u
output_only g h b e o u p q = go (g && h) refl
  where
    go : (x : Bool) → g && h ≡ x → o ≡ u
    go true t = listing_only b e o u (p.listed t) (q.listed t)
    go false f = p.no_file f ∙ sym (q.no_file f)

pub written_only : (g h : Bool) (b e before after later : List ℕ) (r s : ℕ) → Written g b h e before r after → Written g b h e before s later → (r ≡ s) × (after ≡ later)
written_only g h b e before after later r s p q = ⊎_elim short enough (lt_or_ge (length before) most_bytes)
  where
    short : length before < most_bytes → (r ≡ s) × (after ≡ later)
    short l = let x = p.short l in let y = q.short l in (x.0 ∙ sym y.0, x.1 ∙ sym y.1)

    enough : most_bytes ≤ length before → (r ≡ s) × (after ≡ later)
    enough l =
        let x = p.enough l in
        let y = q.enough l in
        let t = output_only g h b e (take r after) (take s later) x.1 y.1 in
        let n = sym (length-take-le r after x.0) ∙ ap length t ∙ length-take-le s later y.0 in
        let d = p.rest ∙ ap (λ (k : ℕ). drop k before) n ∙ sym q.rest in
        (n, sym (take-append-drop r after) ∙ ap₂ (λ (u v : List ℕ). u ++ v) t d ∙ take-append-drop s later)
