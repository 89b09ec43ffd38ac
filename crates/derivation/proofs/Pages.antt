-- The scripts of consecutive readings, one after the other: one more at the end, how long they are, and where each of them stands.
-- Assumes nothing.
use mathlib.Core.Path.{◌≡◌, refl, sym, ap, ap₂, ◌∙◌}
use mathlib.Core.List.{List, [], ◌++◌, append_assoc}
use Prim.Native.Nat.{ℕ, zero, suc, ◌+◌, ◌*◌, ◌≤◌, ◌<◌}
use native.Mathlib.Nat.{add-zero, zero-mul, suc-mul}
use native.Mathlib.Numerals.{add-one}
use native.Mathlib.Decide.{dec_lt}
use native.Mathlib.Omega.{arith}
use lib.ListN.{length, get_or, take, drop, length-append}
use lib.Seq.{take_at, drop_at}
use Rattle.derivation.specs.Grammar.{Grammar}
use Rattle.derivation.specs.Tree.{script_word_count}
use Rattle.derivation.specs.Reading.{quiet, spelling}
use Rattle.derivation.specs.Derivations.{join, readings, page_of}
use Rattle.derivation.proofs.Numbering.{readings_numbered}
use Rattle.derivation.proofs.Readings.{spelling_length}

module _ (g : Grammar) (w : List ℕ) where
  -- the words of one script
  abbrev W : ℕ
  W = script_word_count (length w)

  pub script_long : (q : ℕ) → q < length (readings g w) → length (spelling (get_or (readings g w) q quiet)) ≡ W
  script_long q h = spelling_length g w _ ((readings_numbered g w).gives q h)

  pub page_none : (k : ℕ) → page_of g w k 0 ≡ []
  unfolding page_of join
  page_none k = refl

  page_next : (k c : ℕ) → page_of g w k (suc c) ≡ page_of g w k c ++ spelling (get_or (readings g w) (k + c) quiet)
  unfolding page_of join
  page_next k c = refl

  pub page_more : (k c : ℕ) → page_of g w k (c + 1) ≡ page_of g w k c ++ spelling (get_or (readings g w) (k + c) quiet)
  page_more k c = rw add-one (page_next k c)

  pub page_one : (k : ℕ) → page_of g w k 1 ≡ spelling (get_or (readings g w) k quiet)
  page_one k = page_more k 0 ∙ rw (page_none k, add-zero k)

  pub page_length : (k c : ℕ) → k + c ≤ length (readings g w) → length (page_of g w k c) ≡ c * W
  page_length k zero h = ap length (page_none k) ∙ sym (zero-mul W)
  page_length k (suc c) h =
      ap length (page_next k c) ∙ length-append (page_of g w k c) (spelling (get_or (readings g w) (k + c) quiet)) ∙ ap₂ ◌+◌ (page_length k c (omega arith)) (script_long (k + c) (omega arith)) ∙ sym (suc-mul c W)

  -- script x of those of a page that something follows
  pub page_at : (k c x : ℕ) (rest : List ℕ) → k + c ≤ length (readings g w) → x < c
      → take W (drop (x * W) (page_of g w k c ++ rest)) ≡ spelling (get_or (readings g w) (k + x) quiet)
  page_at k zero x rest h l = absurd (omega arith)
  page_at k (suc c) x rest h l =
      ap (λ (p : List ℕ). take W (drop (x * W) (p ++ rest))) (page_next k c)
      ∙ ap (λ (p : List ℕ). take W (drop (x * W) p)) (append_assoc (page_of g w k c) _ rest)
      ∙ elim (dec_lt x c) [
        | yes m ↦ page_at k c x _ (omega arith) m
        | no m ↦
            let e : x ≡ c = omega arith in
            rw e (ap (take W) (drop_at (page_of g w k c) _ (c * W) (page_length k c (omega arith))) ∙ take_at _ rest W (script_long (k + c) (omega arith)))
      ]
