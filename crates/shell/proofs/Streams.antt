-- What is read or written in two goes stands one behind the other.
-- Assumes nothing.
use Rattle.std.proofs.Common.{◌≡◌, sym, subst, ap, ap₂, ◌∙◌, ◌+◌, ◌≤◌, ◌++◌, List, ℕ, Option, Some, None, IfSome, is_some, true, Result, Ok, Err, MatchResult, min, arith, length, take, drop, Bor}
use Rattle.std.proofs.Math.Seq.{take-add}
use Rattle.std.proofs.KnownBytes.{Appends-trans, Consumes-trans}
use Rattle.std.proofs.lemmas.List.{drop_at, take-append-le}
use Rattle.std.proofs.lemmas.Slice.{take-put_mid_below}
use Rattle.std.specs.Io.KnownBytes.{Appends, Consumes, ReadConsumes}
use Rattle.std.specs.Io.{ReadsAtMost}
use Rattle.listing.specs.Listing.{bytes_shown}
use borrow.Rule.Slice.PartMut.{put_mid, post_of}
use lib.Seq.{length-take-le}

-- a buffer that was filled up to at, and of which the part behind now begins with the n bytes read
read_on : (a b c : Option (List ℕ)) (at k n : ℕ) (old ys : List ℕ) → at ≤ length old → n ≤ length ys
    → Consumes a b (take at old) → Consumes b c (take n ys) → Consumes a c (take (at + n) (put_mid at k old ys))
read_on a b c at k n old ys h l p q = subst (Consumes a c) (sym joined) (Consumes-trans a b c _ _ p q)
  where
    joined : take (at + n) (put_mid at k old ys) ≡ take at old ++ take n ys
    joined =
        take-add at n (put_mid at k old ys)
        ∙ ap₂ (λ (x y : List ℕ). x ++ take n y) (take-put_mid_below at k old ys at (omega arith) h) (drop_at (take at old) (ys ++ post_of at k old) at (length-take-le at old h))
        ∙ ap (λ (x : List ℕ). take at old ++ x) (take-append-le n ys (post_of at k old) l)

one_number : (m n : ℕ) (r : Result ℕ ℕ) → r ≡ Ok m → r ≡ Ok n → n ≡ m
one_number m n r p q = cc (p, q)

-- and whatever a read answers, where what that tells is no failure
pub read_more : {E : Type 0} (a b c : Option (List ℕ)) (at k room next : ℕ) (old ys : List ℕ) (got : Result ℕ E) (r : Result ℕ ℕ) → at ≤ length old → length ys ≤ room
    → Consumes a b (take at old) → ReadsAtMost got ys → ReadConsumes b c got ys
    → MatchResult got (λ n. r ≡ Ok (at + min n room)) (λ _. r ≡ Err at) → r ≡ Ok next → Consumes a c (take next (put_mid at k old ys))
read_more a b c at k room next old ys (Ok n) r h l p m q v e =
    let same : next ≡ at + n = one_number (at + n) next r (v ∙ ap (λ (x : ℕ). Ok (at + x)) (omega (arith, m.0))) e in
    rw same (read_on a b c at k n old ys h m.0 p q.0)
read_more a b c at k room next old ys (Err x) r h l p m q v e = absurd (cc (v, e))

-- n more bytes are written
pub write_on : (a b c : Option (List ℕ)) (at n : ℕ) (xs : List ℕ) → Appends a b (take at xs) → Appends b c (take n (drop at xs))
    → Appends a c (take (at + n) xs)
write_on a b c at n xs p q = subst (Appends a c) (sym (take-add at n xs)) (Appends-trans a b c _ _ p q)

-- what is shown of a file that was read
pub shown_whole : (file : Option (Bor (List ℕ))) (bs : List ℕ) → IfSome file (λ s. s.now ≡ bs) → is_some file ≡ true → bytes_shown file ≡ bs
shown_whole None bs p h = cc h
shown_whole (Some s) bs p h = p
