-- Every example holds: the definitions are computed on all rows at once, and whether there is a reading is turned into the verdict.
-- Assumes nothing.
use mathlib.Core.Path.{◌≡◌, refl, sym, ap, ◌∙◌}
use mathlib.Core.Logic.{⊎_elim}
use mathlib.Core.Bool.{Bool, true, false}
use mathlib.Core.List.Memᴰ
use mathlib.Core.List.{List, [], ◌∷◌, map, head-eq_of_cons-eq, tail-eq_of_cons-eq}
use Prim.Native.Nat.{ℕ, min}
use native.Mathlib.Omega.{arith}
use lib.Dec.{ltb}
use borrow.Author.Tests.{ltb-true}
use lib.ListN.{length, get_or}
use Rattle.bits.specs.Truth.{Decides, All, same}
use Rattle.bits.specs.Sum.{sum, between}
use Rattle.derivation.specs.Grammar.{Grammar}
use Rattle.derivation.specs.Tree.{script}
use Rattle.derivation.specs.Reading.{quiet, Admitted, spelling}
use Rattle.derivation.specs.Derivations.{join, gate, cross, leaf_at, nodes_at, splits_at, level, trees, derivations, readings, scripts, count, known}
use Rattle.derivation.specs.Chart.{cells_before, cell_at, cell, items, event_firings, pair_firings, cell_firings, column_firings, firings}
use Rattle.derivation.specs.Examples.{chain, quiet_chain, stop, Detail, reading, word, Example, example, DetailHolds, RowHolds, examples}
use Rattle.derivation.proofs.Lists.{◌∈◌, truth}
use Rattle.derivation.proofs.Numbering.{readings_numbered}
use Rattle.derivation.proofs.Cells.{cell_told, items_told, firings_told}

-- ---- what is computed, as the definitions have it and as the row has it
abbrev Value : Type 0
Value = record { within : Bool; words : List ℕ }

detail : Grammar → List ℕ → Detail → Value
detail g w (reading q s) = record { within = ltb q (length (scripts g w)); words = get_or (scripts g w) q [] }
detail g w (word i k n v) = record { within = true; words = cell_at i k ∷ cell g.symbols (known g w) i k ∷ [] }

said : Detail → Value
said (reading q s) = record { within = true; words = s }
said (word i k n v) = record { within = true; words = n ∷ v ∷ [] }

abbrev Values : Type 0
Values = record { verdict : ℕ; items : ℕ; firings : ℕ; readings : ℕ; details : List Value }

computed : Example → Values
computed e =
    let g = e.grammar in
    let w = e.events in
    record {
      verdict = min 1 (length (readings g w));
      items = items g.symbols (length w) (known g w);
      firings = firings g w (known g w);
      readings = length (scripts g w);
      details = map (detail g w) e.details;
    }

stated : Example → Values
stated e = record {
  verdict = truth e.verdict;
  items = e.items;
  firings = e.firings;
  readings = e.readings;
  details = map said e.details;
}

computes : map computed examples ≡ map stated examples
unfolding examples example computed stated detail said script spelling scripts chain quiet_chain stop cells_before cell readings known items firings event_firings pair_firings cell_firings column_firings count derivations trees level join sum between same cross gate leaf_at nodes_at splits_at
computes = refl

-- ---- from the values to what the row says
at_element : {X Y : Type 0} {x : X} (f h : X → Y) (l : List X) → map f l ≡ map h l → x ∈ l → f x ≡ h x
at_element f h [] e m = absurd (Memᴰ.not-nil m)
at_element f h (y ∷ ys) e m =
    ⊎_elim (λ q. ap f q ∙ head-eq_of_cons-eq e ∙ ap h (sym q)) (at_element f h ys (tail-eq_of_cons-eq e)) (Memᴰ.cases_cons m)

decided : (g : Grammar) (w : List ℕ) (b : Bool) → min 1 (length (readings g w)) ≡ truth b → Decides b (Admitted g w)
decided g w true e = (get_or (readings g w) 0 quiet, (readings_numbered g w).gives 0 (omega arith))
decided g w false e = λ d. let q = (readings_numbered g w).numbered d.0 d.1 in omega (arith, q.1)

detail_holds : (g : Grammar) (w : List ℕ) (d : Detail) → detail g w d ≡ said d → DetailHolds g w d
unfolding detail said
detail_holds g w (reading q s) e = (ltb-true q (length (scripts g w)) (ap (λ (v : Value). v.within) e), ap (λ (v : Value). v.words) e)
detail_holds g w (word i k n v) e =
    let h = ap (λ (v : Value). v.words) e in (head-eq_of_cons-eq h, λ s t. cell_told g w s t i k ∙ head-eq_of_cons-eq (tail-eq_of_cons-eq h))

details_hold : (g : Grammar) (w : List ℕ) (ds : List Detail) → map (detail g w) ds ≡ map said ds → All (DetailHolds g w) ds
details_hold g w [] e = tt
details_hold g w (d ∷ ds) e = (detail_holds g w d (head-eq_of_cons-eq e), details_hold g w ds (tail-eq_of_cons-eq e))

row_holds : (e : Example) → computed e ≡ stated e → RowHolds e
unfolding computed stated
row_holds e q =
    record {
      verdict = decided e.grammar e.events e.verdict (ap (λ (v : Values). v.verdict) q);
      items = λ s t. items_told e.grammar e.events s t ∙ ap (λ (v : Values). v.items) q;
      firings = λ s t. firings_told e.grammar e.events s t ∙ ap (λ (v : Values). v.firings) q;
      readings = ap (λ (v : Values). v.readings) q;
      details = details_hold e.grammar e.events e.details (ap (λ (v : Values). v.details) q);
    }

-- every row marked P holds
pub examples_hold : (e : Example) → e ∈ examples → RowHolds e
examples_hold e m = row_holds e (at_element computed stated examples computes m)
