-- A page of an accepted image and a record that is not refused, from a number below the limit: with enough memory it is refused only where no
-- reading has that number, so that the table is filled either way; and the scripts of the first page are the first hundred, or all.
-- Assumes nothing.
use mathlib.Core.Path.{◌≡◌, refl, sym, ap, ◌∙◌}
use mathlib.Core.Logic.{◌⊎◌, inl, inr, ⊎_elim}
use mathlib.Core.List.{List, []}
use Prim.Native.Nat.{ℕ, ◌*◌, ◌≤◌, ◌<◌, min}
use native.Mathlib.Nat.{zero-add}
use native.Mathlib.Decide.{ℕ_discrete}
use native.Mathlib.Omega.{arith}
use lib.ListN.{length, get_or, take, drop, length-map}
use lib.Seq.{take_all}
use Rattle.bits.proofs.Truths.{lt_or_ge}
use Rattle.derivation.specs.Grammar.{Grammar}
use Rattle.derivation.specs.Tree.{script_word_count}
use Rattle.derivation.specs.Reading.{quiet, spelling}
use Rattle.derivation.specs.Derivations.{join, readings, scripts}
use Rattle.derivation.proofs.Lists.{map_at}
use Rattle.derivation.proofs.Pages.{page_at}
use Rattle.layout.specs.Layout.{decode}
use Rattle.image.specs.Refusal.{First}
use Rattle.image.specs.Image.{most_events, image_rows, event_rows, record_rows}
use Rattle.image.specs.Accepted.{Accepted}
use Rattle.image.proofs.Refusals.{none, pass, first_only, past_zero}
use Rattle.image.proofs.Images.{accepted_back}
use Rattle.table.specs.Table.{limit, held, table_words}
use Rattle.table.specs.Fill.{CountsIn}
use Rattle.table.proofs.Tables.{counts_in}
use Rattle.text.specs.Text.{line}
use Rattle.readings.specs.Answer.{Paged}
use Rattle.readings.specs.Count.{how_many, table_rows, count_rows}
use Rattle.readings.specs.Reading.{room_rows, number_rows, lent_rows}
use Rattle.readings.specs.Page.{PageIs}
use Rattle.readings.proofs.Refuses.{numbered, twelve}
use Rattle.listing.specs.Listing.{most_listed, lines}
use Rattle.listing.proofs.Lists.{lines_each}

-- ---- the first scripts
module _ (g : Grammar) (w : List ℕ) where
  length_scripts : length (scripts g w) ≡ how_many g w
  unfolding scripts
  length_scripts = length-map (readings g w) spelling

  script_at : (x : ℕ) → x < how_many g w → get_or (scripts g w) x [] ≡ spelling (get_or (readings g w) x quiet)
  unfolding scripts
  script_at x h = map_at spelling (readings g w) x quiet [] h

  -- where there are fewer, the first hundred are all
  first_scripts : (c : ℕ) → c ≡ min most_listed (how_many g w) → take c (scripts g w) ≡ take most_listed (scripts g w)
  first_scripts c e =
      ⊎_elim (λ (l : most_listed < how_many g w). let z : c ≡ most_listed = omega arith in rw z)
      (λ (l : how_many g w ≤ most_listed). take_all c (scripts g w) (rw length_scripts (omega arith)) ∙ sym (take_all most_listed (scripts g w) (rw length_scripts (omega arith))))
      (lt_or_ge most_listed (how_many g w))

-- ---- a page of m readings from number k on
module _ (b w : List ℕ) where
  abbrev many : ℕ
  many = how_many (decode b) w

  -- the words of one script
  abbrev W : ℕ
  W = script_word_count (length w)

  module _ (k m : ℕ) (table room : List ℕ) (r : Paged) (table' room' : List ℕ) (p : PageIs b w k m table room r table' room') where
    pub page_most : r.written ≤ m
    page_most = elim (ℕ_discrete r.refusal 0) [ yes z ↦ omega (arith, p.answered z) | no z ↦ omega (arith, p.refused z) ]

    module _ (image : Accepted b) (few : length w ≤ most_events) (fits : table_words (decode b).symbols (length w) ≤ length table)
        (space : m * W ≤ length room) (small : k < limit) where
      passes : First (lent_rows b (length w) (length table) (m * W) (length room)) 0
      passes =
          past_zero (count_rows b (length w) (length table)) (room_rows (m * W) (length room)) (omega arith) 0 refl
          (past_zero (record_rows b (length w)) (table_rows b (length w) (length table)) (omega arith) 0 refl
          (past_zero (image_rows b) (event_rows (length w)) (omega arith) 0 refl (accepted_back b image) (pass few none))
          (pass fits none))
          (pass space none)

      -- past the refusals on the lent memory those on the number decide
      decided : (n : ℕ) → First (number_rows k many) n → r.refusal ≡ n
      decided n q = first_only p.refusal (past_zero (lent_rows b (length w) (length table) (m * W) (length room)) (number_rows k many) (omega arith) 0 refl passes q)

      answer : ((k < many) × (r.refusal ≡ 0)) ⊎ ((many ≤ k) × (r.refusal ≡ 12))
      answer =
          ⊎_elim (λ (h : k < many). inl (h, decided 0 (numbered k (held many) many refl (λ z. omega arith) (omega arith))))
          (λ (h : many ≤ k). inr (h, decided 12 (twelve k (held many) many refl (λ z. omega arith) (omega arith) (omega arith))))
          (lt_or_ge k many)

      -- with either answer the table is filled
      pub page_counts : CountsIn (decode b) w table'
      page_counts = counts_in (decode b) w table table' fits (p.filled (⊎_elim (λ a. inl a.1) (λ a. inr (inl a.1)) answer))

  -- ---- the first page
  module _ (table room : List ℕ) (r : Paged) (table' room' : List ℕ) (p : PageIs b w 0 most_listed table room r table' room')
      (image : Accepted b) (few : length w ≤ most_events) (fits : table_words (decode b).symbols (length w) ≤ length table) (space : most_listed * W ≤ length room) where
    some : ((0 < many) × (r.refusal ≡ 0)) ⊎ ((many ≤ 0) × (r.refusal ≡ 12))
    some = answer 0 most_listed table room r table' room' p image few fits space (omega arith)

    count : r.written ≡ min most_listed many
    count = ⊎_elim (λ a. omega (arith, a.0, p.answered a.1)) (λ a. omega (arith, a.0, p.refused (λ z. omega (arith, z, a.1)))) some

    script : (x : ℕ) → x < r.written → take W (drop (x * W) room') ≡ get_or (scripts (decode b) w) x []
    script x h =
        ⊎_elim
        (λ a. ap (λ (l : List ℕ). take W (drop (x * W) l)) (p.written a.1)
        ∙ page_at (decode b) w 0 r.written x _ (omega (arith, count)) h
        ∙ rw zero-add (sym (script_at (decode b) w x (omega (arith, count)))))
        (λ a. absurd (omega (arith, a.0, count)))
        some

    pub page_lines : (n : ℕ) → n ≡ W → join r.written (λ x. line (take n (drop (x * n) room'))) ≡ lines (take most_listed (scripts (decode b) w))
    page_lines n e = rw e
        (lines_each (λ x. take W (drop (x * W) room')) (scripts (decode b) w) r.written (rw length_scripts (omega (arith, count))) script
        ∙ ap lines (first_scripts (decode b) w r.written count))
