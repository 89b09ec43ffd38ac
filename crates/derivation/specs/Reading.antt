-- Promised: what a reading of a record is, and its script.
-- Assumes nothing.
use Rattle.std.specs.Prelude.{◌≡◌, List, [], ℕ, length}
use Rattle.derivation.specs.Grammar.{Grammar}
use Rattle.derivation.specs.Tree.{Tree, Derives, script}

-- a derivation, or the reading of a quiet shift, which uses no rule
pub data Reading : Type 0 where
  quiet : Reading
  derived : Tree → Reading

-- it is a reading of w: a derivation of symbol 0 over all of w; and where the grammar's flag is 1 and w is empty, the quiet one.
-- No derivation is over an empty stretch (`Exact.some_events`), so an empty record has no other reading, and a record with events is
-- read by the rules alone
abbrev pub Reads : Grammar → List ℕ → Reading → Type 0
Reads g w quiet = (g.quiet ≡ 1) × (length w ≡ 0)
Reads g w (derived t) = Derives g w 0 0 (length w) t

-- the record is admitted
abbrev pub Admitted : Grammar → List ℕ → Type 0
Admitted g w = (r : Reading) × Reads g w r

-- the quiet one has the empty script
unfoldable pub spelling : Reading → List ℕ
spelling quiet = []
spelling (derived t) = script t

-- s is the script of a reading of w
pub record IsReading (g : Grammar) (w s : List ℕ) : Type 0 where
  pub reading : Reading
  pub reads : Reads g w reading
  pub spelt : spelling reading ≡ s
