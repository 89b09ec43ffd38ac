-- Promised: what the program reads of a file and what it writes to its two streams, where their bytes are known.
-- Assumes nothing.
use Rattle.std.specs.Prelude.{◌≡◌, ℕ, ◌<◌, Bool, true, false, List, Option, Some, None, Result, Ok, Err, ◌⊎◌, ◌++◌, [], ◌∷◌, length, take, codes}
use Rattle.std.specs.Io.KnownBytes.{Keeps, Appends, Consumes, IsAtEnd}

-- how many bytes were read, be it that every read went well or that one failed
abbrev pub read_len : Result ℕ ℕ → ℕ
read_len (Ok n) = n
read_len (Err n) = n

-- bs is read of a file from its front, into so much room, and file' is the file behind it: all of it where the reads went well and room is left;
-- and of a file that could not be opened nothing is read well
abbrev pub ReadInto : {R : Type 0} → (bytes : R → Option (List ℕ)) → (room : ℕ) → (file file' : Option R) → (ok : Bool) → (bs : List ℕ) → Type 0
ReadInto bytes room None file' ok bs = ok ≡ false
ReadInto bytes room (Some r) None ok bs = ⊥
ReadInto bytes room (Some r) (Some r') ok bs = Consumes (bytes r) (bytes r') bs × (ok ≡ true → length bs < room → IsAtEnd (bytes r'))

-- what is said where not all was written: a line
abbrev pub not_all_written : List ℕ
not_all_written = codes "standard output: not all was written" ++ (10 ∷ [])

-- to the first stream goes bs, and nothing to the second; or of bs a part from the front, not all of it, and to the second so much of what is then said
abbrev pub Shown : (out out' err err' : Option (List ℕ)) (bs : List ℕ) → Type 0
Shown out out' err err' bs =
    (Appends out out' bs × Keeps err err')
    ⊎ ((n m : ℕ) × (n < length bs) × Appends out out' (take n bs) × Appends err err' (take m not_all_written))
