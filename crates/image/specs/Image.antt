-- Promised: what is asked of a grammar image and of a record, as the rows of 01's refusal table, and what the two tests answer.
-- Assumes nothing.
use Rattle.std.specs.Prelude.{ℕ, ◌*◌, ◌%◌, ◌≤◌, ◌≡◌, ◌⊎◌, ◌≢◌, List, [], ◌∷◌, ◌++◌, length}
use Rattle.bits.specs.Truth.{Every}
use Rattle.derivation.specs.Grammar.{Grammar, event_rule_count, pair_rule_count, rule_total}
use Rattle.derivation.specs.Sound.{InRange, SymbolsFit, Rises}
use Rattle.derivation.specs.Live.{Live}
use Rattle.rules.specs.Fault.{FirstFault}
use Rattle.image.specs.Refusal.{Row, ◌unless◌, First}
use Rattle.layout.specs.Layout.{header_bytes, byte_in, version_in, symbols_in, leaves_in, pairs_in, quiet_in, Sized, decode}
use Rattle.image.specs.Answer.{Tested}

-- ---- the demands
-- bytes 0 to 2 are the letters ESG
pub record Marked (b : List ℕ) : Type 0 where
  pub E : byte_in b 0 ≡ 0x45
  pub S : byte_in b 1 ≡ 0x53
  pub G : byte_in b 2 ≡ 0x47

-- the version is 1 or 2
abbrev pub Versioned : List ℕ → Type 0
Versioned b = (version_in b ≡ 1) ⊎ (version_in b ≡ 2)

-- N, L, B and the flag are in range
abbrev pub Ranged : List ℕ → Type 0
Ranged b = InRange (symbols_in b) (leaves_in b) (pairs_in b) (quiet_in b)

-- the most events that a record may have
abbrev pub most_events : ℕ
most_events = 96

-- and the most bytes, two for each event
abbrev pub most_event_bytes : ℕ
most_event_bytes = 2 * most_events

-- ---- the rows, of the bytes, of the rules, of the number of events, and of that of their bytes
abbrev pub byte_rows : List ℕ → List Row
byte_rows b =
    (1 unless (header_bytes ≤ length b))
    ∷ (2 unless Marked b)
    ∷ (3 unless Versioned b)
    ∷ (4 unless Ranged b)
    ∷ (5 unless Sized b)
    ∷ []

abbrev pub rule_rows : Grammar → List Row
rule_rows g =
    (6 unless Every (rule_total g) (SymbolsFit g))
    ∷ (7 unless Every (rule_total g) (Rises g))
    ∷ (15 unless Every g.symbols (Live g))
    ∷ []

abbrev pub event_rows : ℕ → List Row
event_rows n = (8 unless (n ≤ most_events)) ∷ []

abbrev pub event_byte_rows : ℕ → List Row
event_byte_rows size = (8 unless (size ≤ most_event_bytes)) ∷ (14 unless (size % 2 ≡ 0)) ∷ []

-- refusals 1 to 7 and 15, of any image
abbrev pub image_rows : List ℕ → List Row
image_rows b = byte_rows b ++ rule_rows (decode b)

-- these and then 8, of any image and any number of events: every service that takes a record begins with them
abbrev pub record_rows : List ℕ → ℕ → List Row
record_rows b n = image_rows b ++ event_rows n

-- and then 8 and 14, of a record that is bytes, so many of them
abbrev pub record_byte_rows : List ℕ → ℕ → List Row
record_byte_rows b size = image_rows b ++ event_byte_rows size

-- ---- the rule that an answer names: with 6 and 7 the first of all rules of which the refusal's own demand fails, with any other number 0
pub record Names (g : Grammar) (refusal rule : ℕ) : Type 0 where
  pub unfit : refusal ≡ 6 → FirstFault (rule_total g) (SymbolsFit g) rule
  pub low : refusal ≡ 7 → FirstFault (rule_total g) (Rises g) rule
  pub other : refusal ≢ 6 → refusal ≢ 7 → rule ≡ 0

-- ---- what a test by such rows answers: the first that applies with zeros, but for the rule, or 0 with N, L and B
pub record Gives (t : Tested) (N L B : ℕ) : Type 0 where
  pub symbols : t.symbols ≡ N
  pub leaves : t.leaves ≡ L
  pub pairs : t.pairs ≡ B

-- N, L and B of the grammar
abbrev pub GivesCounts : Tested → Grammar → Type 0
GivesCounts t g = Gives t g.symbols (event_rule_count g) (pair_rule_count g)

pub record TestedIs (rows : List Row) (g : Grammar) (t : Tested) : Type 0 where
  pub refusal : First rows t.refusal
  pub rule : Names g t.refusal t.rule
  pub accepted : t.refusal ≡ 0 → GivesCounts t g
  pub refused : t.refusal ≢ 0 → Gives t 0 0 0
