-- Promised: the bytes of a grammar image, and the grammar that they show, whatever they are.
-- Assumes nothing.
use Rattle.std.specs.Prelude.{ℕ, suc, zero, ◌+◌, ◌*◌, ◌≤◌, ◌≡◌, List, [], ◌∷◌, map, length, get_or}
use Rattle.bits.specs.Truth.{same}
use Rattle.derivation.specs.Grammar.{EventRule, PairRule, Grammar}

-- ---- numbers
-- a byte past the end is 0
abbrev pub byte_in : List ℕ → ℕ → ℕ
byte_in b k = get_or b k 0

-- a 16-bit number, low byte first
abbrev pub word_in : List ℕ → ℕ → ℕ
word_in b k = byte_in b k + 256 * byte_in b (k + 1)

-- ---- the header: ten bytes, and in version 2 an eleventh, the flag
abbrev pub header_bytes : ℕ
header_bytes = 10

-- bytes 3 and 4 are the version, byte 5 is N, bytes 6 and 7 are L, bytes 8 and 9 are B
abbrev pub version_in : List ℕ → ℕ
version_in b = word_in b 3

abbrev pub symbols_in : List ℕ → ℕ
symbols_in b = byte_in b 5

abbrev pub leaves_in : List ℕ → ℕ
leaves_in b = word_in b 6

abbrev pub pairs_in : List ℕ → ℕ
pairs_in b = word_in b 8

-- 1 in version 2, else 0
abbrev pub flag_bytes : List ℕ → ℕ
flag_bytes b = same (version_in b) 2

-- an image without the byte has the flag 0
unfoldable pub quiet_in : List ℕ → ℕ
quiet_in b = flag_bytes b * byte_in b header_bytes

-- ---- the rules: three bytes each, the event rules and then the pair rules
-- where they begin, and where rule r stands
unfoldable pub first_rule_at : List ℕ → ℕ
first_rule_at b = header_bytes + flag_bytes b

abbrev pub rule_in : List ℕ → ℕ → ℕ
rule_in b r = first_rule_at b + 3 * r

-- symbol, event
abbrev pub event_rule_at : List ℕ → ℕ → EventRule
event_rule_at b r = record { symbol = byte_in b (rule_in b r); event = word_in b (rule_in b r + 1) }

-- symbol, left symbol, right symbol
abbrev pub pair_rule_at : List ℕ → ℕ → PairRule
pair_rule_at b r = record { symbol = byte_in b (rule_in b r); left = byte_in b (rule_in b r + 1); right = byte_in b (rule_in b r + 2) }

-- the n numbers from i up
unfoldable pub counting : ℕ → ℕ → List ℕ
counting i zero = []
counting i (suc n) = i ∷ counting (suc i) n

-- event rules are numbered 0 to L - 1, pair rules L to L + B - 1
unfoldable pub decode : List ℕ → Grammar
decode b = record {
  symbols = symbols_in b;
  leaves = map (event_rule_at b) (counting 0 (leaves_in b));
  pairs = map (pair_rule_at b) (counting (leaves_in b) (pairs_in b));
  quiet = quiet_in b;
}

-- ---- what a function that reads rules asks: the header is there, all the rules are, and the one that it reads is among them
-- the image ends where its rules do
abbrev pub Sized : List ℕ → Type 0
Sized b = length b ≡ first_rule_at b + 3 * (leaves_in b + pairs_in b)

pub record Whole (b : List ℕ) : Type 0 where
  pub long : header_bytes ≤ length b
  pub sized : Sized b
