-- Shown: so much of each file is read: one byte more than the longest that is not refused for its length.
-- Assumes nothing.
use Rattle.std.specs.Prelude.{List, ℕ, ◌+◌, take}
use Rattle.image.specs.Accepted.{longest_image}
use Rattle.listing.specs.Listing.{most_event_bytes}

abbrev pub grammar_start : List ℕ → List ℕ
grammar_start b = take (longest_image + 1) b

abbrev pub events_start : List ℕ → List ℕ
events_start e = take (most_event_bytes + 1) e
