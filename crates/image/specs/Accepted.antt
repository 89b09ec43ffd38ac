-- Shown: what 1 to 7 and 15 let pass, neither more nor less, and how long that is at most.
-- Assumes nothing.
use Rattle.std.specs.Prelude.{ℕ, ◌+◌, ◌*◌, List}
use Rattle.bits.specs.Truth.{Every}
use Rattle.derivation.specs.Sound.{most_leaves, most_pairs, Sound}
use Rattle.derivation.specs.Live.{Live}
use Rattle.layout.specs.Layout.{header_bytes, Whole, decode}
use Rattle.image.specs.Image.{Marked, Versioned}

-- ---- what 1 to 7 and 15 let pass, neither more nor less
pub record Accepted (b : List ℕ) : Type 0 where
  pub marked : Marked b
  pub version : Versioned b
  pub whole : Whole b
  pub sound : Sound (decode b)
  pub live : Every (decode b).symbols (Live (decode b))

-- the longest image that is accepted, one of version 2
abbrev pub longest_image : ℕ
longest_image = header_bytes + 1 + 3 * (most_leaves + most_pairs)
