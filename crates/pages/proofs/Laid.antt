-- What the room holds before the first script of a page, after it, and after each other one.
-- Assumes nothing.
use Prim.Native.Nat.{ℕ, ◌+◌, ◌-◌, ◌*◌, ◌≤◌, ◌<◌}
use native.Mathlib.Nat.{zero-mul, mul-zero, one-mul, suc-mul, le_trans, mul-le-mul_right}
use native.Mathlib.Numerals.{add-one}
use native.Mathlib.Omega.{arith}
use mathlib.Core.Path.{◌≡◌, sym, ap, ap₂, ◌∙◌}
use mathlib.Core.Bool.{Bool}
use mathlib.Core.List.{List, ◌++◌, append_assoc}
use lib.ListN.{length, get_or, take, drop, length-append, length-drop}
use lib.Seq.{paste, take_at, drop_at, drop-drop}
use Rattle.derivation.specs.Grammar.{Grammar}
use Rattle.derivation.specs.Tree.{script_word_count}
use Rattle.derivation.specs.Reading.{quiet, spelling}
use Rattle.derivation.specs.Derivations.{readings, page_of}
use Rattle.derivation.proofs.Lists.{no_length}
use Rattle.derivation.proofs.Readings.{count_events, reading_at}
use Rattle.derivation.proofs.Pages.{script_long, page_one, page_more, page_length}
use Rattle.unrank.proofs.Room.{tail, back}
use Rattle.pages.specs.Step.{Begins, Stepped}
use Rattle.pages.proofs.Stepping.{back_all, tail_all, steps_on}

-- ---- a page without words leaves the room as it was
module _ (g : Grammar) (w : List ℕ) (k count : ℕ) (some : k + count ≤ length (readings g w)) (room : List ℕ) where
  no_words : count * script_word_count (length w) ≡ 0 → room ≡ page_of g w k count ++ drop (count * script_word_count (length w)) room
  no_words e = rw (e, no_length (page_of g w k count) (page_length g w k count some ∙ e))

  pub no_events_is : length w ≡ 0 → room ≡ page_of g w k count ++ drop (count * script_word_count (length w)) room
  no_events_is e = no_words (ap (λ (n : ℕ). count * script_word_count n) e ∙ mul-zero count)

  pub no_scripts : count ≡ 0 → room ≡ page_of g w k count ++ drop (count * script_word_count (length w)) room
  no_scripts e = no_words (ap (λ (n : ℕ). n * script_word_count (length w)) e ∙ zero-mul _)

-- ---- words of scripts
pub one_fits : (count W m : ℕ) → 0 < count → count * W ≤ m → W ≤ m
one_fits count W m h l = le_trans (rw one-mul at (mul-le-mul_right W (one_of h))) l
  where
    one_of : 0 < count → 1 ≤ count
    one_of h = omega arith

next_place : (x W : ℕ) → (x + 1) * W ≡ x * W + W
next_place x W = ap (λ (n : ℕ). n * W) (add-one x) ∙ suc-mul x W

-- ---- after x scripts they stand at the front of the room and end at `end`, and the rest is as it was
pub record Laid (g : Grammar) (w : List ℕ) (k count : ℕ) (before : List ℕ) (x end : ℕ) (now : List ℕ) : Type 0 where
  pub most : x ≤ count
  pub place : end ≡ x * script_word_count (length w)
  pub text : now ≡ page_of g w k x ++ drop end before

-- the first script was written to the front of `entry`, which is `before` then
module _ (g : Grammar) (w : List ℕ) (k count : ℕ) (some : k + count ≤ length (readings g w)) (one : 0 < count) (entry before : List ℕ)
    (e : before ≡ spelling (get_or (readings g w) k quiet) ++ drop (script_word_count (length w)) entry) (fits : count * script_word_count (length w) ≤ length entry) where
  abbrev W : ℕ
  W = script_word_count (length w)

  abbrev first : List ℕ
  first = spelling (get_or (readings g w) k quiet)

  first_long : length first ≡ W
  first_long = script_long g w k (omega arith)

  first_length : length before ≡ length entry
  first_length =
      ap length e ∙ length-append first (drop W entry) ∙ ap₂ ◌+◌ first_long (length-drop W entry) ∙ omega (arith, one_fits count W (length entry) one fits)

  first_rest : drop W before ≡ drop W entry
  first_rest = ap (drop W) e ∙ drop_at first (drop W entry) W first_long

  -- what is dropped at the end is no less than the first script
  whole_rest : drop (count * W) before ≡ drop (count * W) entry
  whole_rest =
      let l = one_fits count W (count * W) one (omega arith) in
      let d : W + (count * W - W) ≡ count * W = omega arith in
      rw (← d) (sym (drop-drop (count * W - W) W before) ∙ ap (drop (count * W - W)) first_rest ∙ drop-drop (count * W - W) W entry)

  pub laid_first : Laid g w k count before 1 W before
  laid_first = record { most = omega arith; place = sym (one-mul W); text = e ∙ ap₂ ◌++◌ (sym (page_one g w k)) (sym first_rest) }

  module _ (x end : ℕ) (now : List ℕ) (l : Laid g w k count before x end now) where
    long : length (page_of g w k x) ≡ end
    long = page_length g w k x (omega (arith, l.most)) ∙ sym l.place

    pub laid_length : length now ≡ length entry
    laid_length =
        ap length l.text ∙ length-append (page_of g w k x) (drop end before) ∙ ap₂ ◌+◌ long (length-drop end before)
        ∙ omega (arith, first_length, l.place, mul-le-mul_right W l.most)

    pub laid_fits : x < count → end + W ≤ length now
    laid_fits h = rw laid_length (omega (arith, l.place, next_place x W, mul-le-mul_right W (next h)))
      where
        next : x < count → x + 1 ≤ count
        next h = omega arith

    pub laid_done : count ≤ x → now ≡ page_of g w k count ++ drop (count * W) entry
    laid_done h =
        let c : x ≡ count = omega (arith, l.most) in
        l.text ∙ rw (l.place, c) (ap (λ (r : List ℕ). page_of g w k count ++ r) whole_rest)

    -- the last of them stands at `at`, and `copied` is the room with it once more behind it
    module _ (at : ℕ) (ends : end ≡ at + W) (positive : 0 < x) (h : x < count) (copied : List ℕ) (c : copied ≡ paste now end (drop at now) (end - at)) where
      abbrev y : ℕ
      y = x - 1

      abbrev last : List ℕ
      last = spelling (get_or (readings g w) (k + y) quiet)

      abbrev rest : List ℕ
      rest = drop (end + W) before

      y_on : x ≡ y + 1
      y_on = omega arith

      last_long : length last ≡ W
      last_long = script_long g w (k + y) (omega arith)

      at_long : length (page_of g w k y) ≡ at
      at_long = let p : x * W ≡ y * W + W = ap (λ (n : ℕ). n * W) y_on ∙ next_place y W in page_length g w k y (omega arith) ∙ omega (arith, l.place)

      -- the scripts before the last one, the last one, and what was there
      apart : now ≡ page_of g w k y ++ (last ++ drop end before)
      apart = l.text ∙ ap (λ (p : List ℕ). p ++ drop end before) (ap (page_of g w k) y_on ∙ page_more g w k y) ∙ append_assoc (page_of g w k y) last (drop end before)

      copied_is : copied ≡ page_of g w k x ++ (last ++ rest)
      copied_is =
          c
          ∙ rw (as_long, ← (drop-drop W end now), front, behind, last_front)
          (append_assoc (page_of g w k x) last (drop W (drop end before)) ∙ ap (λ (r : List ℕ). page_of g w k x ++ (last ++ r)) (drop-drop W end before))
        where
          as_long : end - at ≡ W
          as_long = omega arith

          front : take end now ≡ page_of g w k x
          front = ap (take end) l.text ∙ take_at (page_of g w k x) (drop end before) end long

          behind : drop end now ≡ drop end before
          behind = ap (drop end) l.text ∙ drop_at (page_of g w k x) (drop end before) end long

          last_front : take W (drop at now) ≡ last
          last_front =
              ap (λ (m : List ℕ). take W (drop at m)) apart
              ∙ ap (take W) (drop_at (page_of g w k y) (last ++ drop end before) at at_long) ∙ take_at last (drop end before) W last_long

      -- a record with events has derivations for readings
      module _ (events : 0 < length w) where
        pub copied_begins : Begins g w 0 0 (length w) (k + y) rest (tail end copied)
        copied_begins = record {
          below = rw (← (count_events g w events)) (omega arith);
          text = tail_all end copied (page_of g w k x) (last ++ rest) copied_is long ∙ ap (λ (s : List ℕ). s ++ rest) (reading_at g w events (k + y) (omega arith));
        }

        pub laid_step : (b : Bool) (v : List ℕ) → Stepped g w 0 0 (length w) (tail end copied) b v → Laid g w k count before (x + 1) (end + W) (back end copied v)
        laid_step b v step = record {
          most = omega arith;
          place = omega (arith, l.place, next_place x W);
          text = back_all end copied (page_of g w k x) (last ++ rest) v copied_is long
              ∙ ap (λ (s : List ℕ). page_of g w k x ++ s) next ∙ sym (append_assoc (page_of g w k x) _ rest) ∙ ap (λ (s : List ℕ). s ++ rest) (sym (page_more g w k x));
        }
          where
            more : k + x < length (readings g w)
            more = omega arith

            number : k + y + 1 ≡ k + x
            number = omega arith

            -- the last of them is not the last reading, so there was a next one
            next : v ≡ spelling (get_or (readings g w) (k + x) quiet) ++ rest
            next =
                let s = steps_on g w 0 0 (length w) (k + y) rest (tail end copied) v b (step.from (k + y) rest copied_begins) (rw (number, ← (count_events g w events)) more) in
                rw number at s.text ∙ ap (λ (s : List ℕ). s ++ rest) (sym (reading_at g w events (k + x) more))
