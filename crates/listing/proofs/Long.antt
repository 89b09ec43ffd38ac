-- Files longer than any that is listed: their first bytes decide, so that a program need read no more than one byte past the longest
-- image and one past the longest event file.
-- Assumes nothing.
use mathlib.Core.Path.{◌≡◌, subst}
use mathlib.Core.Logic.{◌⊎◌, inl, inr, ◌≢◌, ⊎_elim}
use mathlib.Core.Bool.{Bool}
use mathlib.Core.List.{List}
use Prim.Native.Nat.{ℕ, ◌+◌, ◌≤◌, ◌<◌}
use native.Mathlib.Omega.{arith}
use lib.ListN.{length}
use lib.Seq.{get_or-take, length-take-le, take_all}
use Rattle.image.specs.Refusal.{First}
use Rattle.image.specs.Exactly.{AllHold}
use Rattle.image.specs.Image.{image_rows}
use Rattle.image.specs.Accepted.{longest_image}
use Rattle.image.proofs.Refusals.{all_hold, first_hit, alone, behind}
use Rattle.image.proofs.Images.{holding, accepted_short}
use Rattle.image.proofs.Long.{begins_alike, long_names}
use Rattle.bits.proofs.Truths.{lt_or_ge}
use Rattle.listing.specs.Listing.{most_event_bytes, file_rows, ListingIs, OutputIs}
use Rattle.listing.specs.Start.{grammar_start, events_start}
use Rattle.listing.proofs.Refuses.{passed}

module _ (b e o : List ℕ) where
  -- the first bytes
  abbrev d : List ℕ
  d = grammar_start b

  abbrev f : List ℕ
  f = events_start e

  long_image : longest_image < length b → ListingIs d e o → ListingIs b e o
  long_image l p = record {
    refusal = p.refusal;
    rule = p.rule;
    first = first_hit (image_rows b) (file_rows b e) some (begins_alike d b p.refusal (omega (arith, size)) l (λ k h. get_or-take (longest_image + 1) b k 0 (omega arith)) own);
    names = long_names d p.refusal p.rule (omega (arith, size)) own p.names;
    refused = p.refused;
    listed = λ z. absurd (some z);
  }
    where
      size : length d ≡ longest_image + 1
      size = length-take-le (longest_image + 1) b (omega arith)

      bad : AllHold (image_rows d) → ⊥
      bad h = omega (arith, accepted_short d (holding d h), size)

      own : First (image_rows d) p.refusal
      own = alone (image_rows d) (file_rows d e) p.refusal bad p.first

      some : p.refusal ≢ 0
      some z = bad (all_hold (image_rows d) (omega arith) p.refusal z own)

  long_events : most_event_bytes < length e → ListingIs b f o → ListingIs b e o
  long_events l p = record {
    refusal = p.refusal;
    rule = p.rule;
    first = behind (image_rows b) (file_rows b f) (file_rows b e) p.refusal (⊎_elim (λ x. inl (λ h. omega arith, x.1)) (λ x. absurd (omega (arith, x.0, size)))) p.first;
    names = p.names;
    refused = p.refused;
    listed = λ z. absurd (omega (arith, (passed b f p.refusal z p.first).bytes, size));
  }
    where
      size : length f ≡ most_event_bytes + 1
      size = length-take-le (most_event_bytes + 1) e (omega arith)

-- what is listed of the first bytes is what is listed of all
pub first_bytes : (b e o : List ℕ) → ListingIs (grammar_start b) (events_start e) o → ListingIs b e o
first_bytes b e o p = events (lt_or_ge most_event_bytes (length e))
  where
    image : ListingIs b (events_start e) o
    image =
        ⊎_elim (λ (l : longest_image < length b). long_image b (events_start e) o l p)
        (λ (l : length b ≤ longest_image). subst (λ (x : List ℕ). ListingIs x (events_start e) o) (take_all (longest_image + 1) b (omega arith)) p)
        (lt_or_ge longest_image (length b))

    events : (most_event_bytes < length e) ⊎ (length e ≤ most_event_bytes) → ListingIs b e o
    events (inl l) = long_events b e o l image
    events (inr l) = subst (λ (x : List ℕ). ListingIs b x o) (take_all (most_event_bytes + 1) e (omega arith)) image

-- and so is all that is written
pub first_read : (g h : Bool) (b e o : List ℕ) → OutputIs g (grammar_start b) h (events_start e) o → OutputIs g b h e o
first_read g h b e o p = record { no_file = p.no_file; listed = λ t. first_bytes b e o (p.listed t) }
