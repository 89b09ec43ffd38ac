-- The page of the first readings fills the table and holds their scripts; the heading is written by the one, and the lines by the other.
use mathlib.Core.Path.{◌≡◌, refl, ap, ap₂, ◌∙◌}
use mathlib.Core.List.{◌++◌}
use Prim.Native.Nat.{ℕ, ◌*◌, ◌≤◌}
use native.Mathlib.Nat.{le_trans, mul-le-mul_left, mul-le-mul_right}
use native.Mathlib.Omega.{arith}
use Rattle.std.specs.Result.{result_unwrap_or}
use Rattle.std.specs.declared.result.Result.{Result}
use Rattle.std.specs.declared.result.Result.TheVariants.{Ok, Err}
use Rattle.derivation.specs.Tree.{script_word_count}
use Rattle.image.specs.Image.{most_events}
use Rattle.image.specs.declared.numbered.Refusal.{Refusal}
use Rattle.image.proofs.Outcomes.{taken}
use Rattle.readings.specs.Answer.{paged}
use Rattle.text.proofs.Puts.{put_more, put_as}
use Rattle.listing.specs.Listing.{most_listed, heading}
use Rattle.listing.proofs.FirstPage.{page_counts, page_lines}
use Rattle.listing.proofs.write_readings.Goals as goal

-- a page that is refused has no scripts
written_is : (r : Result ℕ Refusal) → result_unwrap_or r 0 ≡ (paged r).written
written_is (Ok written) = refl
written_is (Err refusal) = refl

longest : (m n : ℕ) → n ≤ most_events → m * script_word_count n ≤ m * script_word_count most_events
longest m n h = mul-le-mul_left m (one h)
  where
    one : n ≤ most_events → script_word_count n ≤ script_word_count most_events
    one h = omega arith

pub invariant_of-total_in : goal.invariant_of-total_in
invariant_of-total_in c =
    let r = c.requires.events_len_bound in
    record { counts = page_counts _ _ _ _ _ _ _ _ _ c.page-paged.ensures (taken c.args.grammar.accepted) r.0 r.1 (longest _ _ r.0) (omega arith) }

pub returns : goal.returns
returns c =
    let r = c.requires.events_len_bound in
    let l = page_lines _ _ _ _ _ _ _ c.page-paged.ensures (taken c.args.grammar.accepted) r.0 r.1 (longest _ _ r.0) _ c.script_words-words.ensures in
    let count : c.unwrap_or.result ≡ (paged c.page-paged.result).written = c.unwrap_or.ensures ∙ written_is c.page-paged.result in
    let lines = rw count at c.write_lines.ensures.1 in
    (c.write_lines.ensures.0, put_as _ _ _ _ _ _ (ap₂ ◌++◌ (ap heading c.total_in-total.ensures) l) (put_more _ _ _ _ _ _ _ _ c.write_heading-end.ensures.1 lines))
