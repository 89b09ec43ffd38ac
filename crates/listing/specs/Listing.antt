-- Promised: what the program writes for the bytes b of a grammar file and the bytes e of an event file, whatever they are, and where one cannot be read.
-- Assumes nothing.
use Rattle.std.specs.Prelude.{◌≡◌, ◌≢◌, Bool, true, false, cond, ◌&&◌, List, [], ◌∷◌, ◌++◌, ℕ, ◌+◌, ◌*◌, ◌%◌, ◌≤◌, ◌<◌, eqb, length, take, drop, Option, option_copied, unwrap_or}
use Rattle.std.specs.Borrow.{Bor}
use Rattle.derivation.specs.Grammar.{Grammar}
use Rattle.derivation.specs.Tree.{script_word_count}
use Rattle.derivation.specs.Derivations.{scripts}
use Rattle.layout.specs.Layout.{decode}
use Rattle.image.specs.Refusal.{Row, ◌unless◌, First}
use Rattle.image.specs.Image.{most_events, image_rows, Names}
use Rattle.table.specs.Table.{limit, held, table_words}
use Rattle.readings.specs.Count.{how_many}
use Rattle.text.specs.Text.{text, line, words}

-- ---- limits
-- the words of its count table, and the scripts that it lists at most
abbrev pub most_words : ℕ
most_words = 16384

abbrev pub most_listed : ℕ
most_listed = 100

-- the most bytes of an event file: two for each event
abbrev pub most_event_bytes : ℕ
most_event_bytes = 2 * most_events

-- ---- the refusals of the image, and then 8, 14 and 10
abbrev pub file_rows : (b e : List ℕ) → List Row
file_rows b e =
    (8 unless (length e ≤ most_event_bytes))
    ∷ (14 unless (length e % 2 ≡ 0))
    ∷ (10 unless (table_words (decode b).symbols (length (words e)) ≤ most_words))
    ∷ []

abbrev pub program_rows : (b e : List ℕ) → List Row
program_rows b e = image_rows b ++ file_rows b e

-- ---- what is written, as bytes: the letters of the words, 32 for a space and 10 for the newline
-- the numbers that tell a refusal: its own and, with 6 and 7, that of the rule
abbrev pub refused_words : (refusal rule : ℕ) → List ℕ
refused_words n r = n ∷ cond (eqb n 6) (r ∷ []) (cond (eqb n 7) (r ∷ []) [])

-- "refused ", and these numbers parted by one space
abbrev pub refused_line : (refusal rule : ℕ) → List ℕ
refused_line n r = (114 ∷ 101 ∷ 102 ∷ 117 ∷ 115 ∷ 101 ∷ 100 ∷ 32 ∷ []) ++ line (refused_words n r)

-- " or more" after a total at the limit
abbrev pub or_more : ℕ → List ℕ
or_more t = cond (eqb t limit) (32 ∷ 111 ∷ 114 ∷ 32 ∷ 109 ∷ 111 ∷ 114 ∷ 101 ∷ []) []

-- "readings ", the total
abbrev pub heading : ℕ → List ℕ
heading t = (114 ∷ 101 ∷ 97 ∷ 100 ∷ 105 ∷ 110 ∷ 103 ∷ 115 ∷ 32 ∷ []) ++ (text t ++ (or_more t ++ (10 ∷ [])))

-- a line for each script
unfoldable pub lines : List (List ℕ) → List ℕ
lines [] = []
lines (s ∷ ss) = line s ++ lines ss

-- the heading and the first hundred scripts
abbrev pub listing : Grammar → List ℕ → List ℕ
listing g w = heading (held (how_many g w)) ++ lines (take most_listed (scripts g w))

-- ---- of two files that were read: out is what is written
pub record ListingIs (b e out : List ℕ) : Type 0 where
  pub refusal : ℕ
  pub rule : ℕ
  pub first : First (program_rows b e) refusal
  pub names : Names (decode b) refusal rule
  pub refused : refusal ≢ 0 → out ≡ refused_line refusal rule
  pub listed : refusal ≡ 0 → out ≡ listing (decode b) (words e)

-- ---- all of it: of each file whether it could be opened and read, and its bytes, which count only where both could be
-- "no file"
abbrev pub no_file_line : List ℕ
no_file_line = 110 ∷ 111 ∷ 32 ∷ 102 ∷ 105 ∷ 108 ∷ 101 ∷ 10 ∷ []

pub record OutputIs (grammarRead : Bool) (b : List ℕ) (eventsRead : Bool) (e out : List ℕ) : Type 0 where
  pub no_file : grammarRead && eventsRead ≡ false → out ≡ no_file_line
  pub listed : grammarRead && eventsRead ≡ true → ListingIs b e out

-- so many bytes are enough for a line: the words of the longest script, each of 5 digits and a byte behind it at most
abbrev pub line_bytes : ℕ
line_bytes = 6 * script_word_count most_events + 1

-- and so many for a heading and a hundred lines
abbrev pub most_bytes : ℕ
most_bytes = 64 + most_listed * line_bytes

-- with a lent room of so many bytes all of it stands in the first r; with less nothing is written; the other bytes stay as they were
pub record Written (grammarRead : Bool) (b : List ℕ) (eventsRead : Bool) (e before : List ℕ) (r : ℕ) (after : List ℕ) : Type 0 where
  pub short : length before < most_bytes → (r ≡ 0) × (after ≡ before)
  pub enough : most_bytes ≤ length before → (r ≤ length after) × OutputIs grammarRead b eventsRead e (take r after)
  pub rest : drop r after ≡ drop r before

-- the bytes of a file as far as it was read, where it is lent; none where it could not be opened and read
abbrev pub bytes_shown : Option (Bor (List ℕ)) → List ℕ
bytes_shown file = unwrap_or (option_copied file) []
