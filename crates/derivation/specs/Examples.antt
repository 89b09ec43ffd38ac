-- Shown: CHAIN and STOP, and the rows of 01's table of examples that are marked P: what each says of the definitions; and two rows of a quiet shift.
-- Assumes nothing.
use Rattle.std.specs.Prelude.{◌≡◌, Bool, true, false, List, [], ◌∷◌, ℕ, ◌<◌, length, get_or}
use Rattle.bits.specs.Truth.{Decides, All}
use Rattle.derivation.specs.Grammar.{Grammar}
use Rattle.derivation.specs.Reading.{Admitted}
use Rattle.derivation.specs.Derivations.{scripts}
use Rattle.derivation.specs.Numbering.{Telling}
use Rattle.derivation.specs.Chart.{cell_at, Findings, cell, items, firings}

-- ---- the grammars
unfoldable pub chain : Grammar
chain = record {
  symbols = 1;
  leaves = record { symbol = 0; event = 7 } ∷ [];
  pairs = record { symbol = 0; left = 0; right = 0 } ∷ [];
  quiet = 0;
}

-- CHAIN where a quiet shift is proper
unfoldable pub quiet_chain : Grammar
quiet_chain = record { symbols = chain.symbols; leaves = chain.leaves; pairs = chain.pairs; quiet = 1 }

-- symbols 0 day, 1 stop, 2 press, 3 tail, 4 relay, 5 reset
unfoldable pub stop : Grammar
stop = record {
  symbols = 6;
  leaves = record { symbol = 2; event = 1 } ∷ record { symbol = 4; event = 2 } ∷ record { symbol = 5; event = 3 } ∷ [];
  pairs =
      record { symbol = 0; left = 1; right = 0 }
      ∷ record { symbol = 0; left = 2; right = 3 }
      ∷ record { symbol = 1; left = 2; right = 3 }
      ∷ record { symbol = 3; left = 4; right = 5 }
      ∷ [];
  quiet = 0;
}

-- ---- what a row says
-- what only some rows give: the script of reading q, or the number of cell (i, k)'s word and what it holds
pub data Detail : Type 0 where
  reading : (q : ℕ) (script : List ℕ) → Detail
  word : (i k number value : ℕ) → Detail

pub record Example : Type 0 where
  pub grammar : Grammar
  pub events : List ℕ
  pub verdict : Bool
  pub items : ℕ
  pub firings : ℕ
  pub readings : ℕ
  pub details : List Detail

unfoldable pub example : Grammar → List ℕ → Bool → ℕ → ℕ → ℕ → List Detail → Example
example g w v m f n d = record { grammar = g; events = w; verdict = v; items = m; firings = f; readings = n; details = d }

abbrev pub DetailHolds : Grammar → List ℕ → Detail → Type 0
DetailHolds g w (reading q s) = (q < length (scripts g w)) × (get_or (scripts g w) q [] ≡ s)
DetailHolds g w (word i k n v) = (cell_at i k ≡ n) × ((s : Findings) → Telling g w s → cell g.symbols s i k ≡ v)

pub record RowHolds (e : Example) : Type 0 where
  pub verdict : Decides e.verdict (Admitted e.grammar e.events)
  pub items : (s : Findings) → Telling e.grammar e.events s → items e.grammar.symbols (length e.events) s ≡ e.items
  pub firings : (s : Findings) → Telling e.grammar e.events s → firings e.grammar e.events s ≡ e.firings
  pub readings : length (scripts e.grammar e.events) ≡ e.readings
  pub details : All (DetailHolds e.grammar e.events) e.details

-- ---- the rows marked P: verdict, items, firings, readings, details. Where 01 names no verdict or number of readings it follows from
-- the other of the two. The last two are for request (vii).
unfoldable pub examples : List Example
examples =
    example chain [] false 0 0 0 []
    ∷ example chain (7 ∷ []) true 1 1 1 (reading 0 (0 ∷ 1 ∷ []) ∷ [])
    ∷ example chain (7 ∷ 7 ∷ []) true 3 3 1 []
    ∷ example chain (7 ∷ 7 ∷ 7 ∷ []) true 6 7 2 []
    ∷ example chain (7 ∷ 7 ∷ 7 ∷ 7 ∷ []) true 10 14 5 []
    ∷ example chain (7 ∷ 8 ∷ []) false 1 1 0 []
    ∷ example stop (1 ∷ 2 ∷ 3 ∷ []) true 6 6 1
    (word 0 3 3 3 ∷ reading 0 (4 ∷ 1 ∷ 0 ∷ 1 ∷ 6 ∷ 2 ∷ 1 ∷ 2 ∷ 2 ∷ 3 ∷ []) ∷ [])
    ∷ example stop (1 ∷ 2 ∷ []) false 2 2 0 []
    ∷ example stop (1 ∷ 2 ∷ 3 ∷ 1 ∷ 2 ∷ 3 ∷ []) true 13 13 1 []
    ∷ example quiet_chain [] true 0 0 1 (reading 0 [] ∷ [])
    ∷ example quiet_chain (7 ∷ []) true 1 1 1 (reading 0 (0 ∷ 1 ∷ []) ∷ [])
    ∷ []
