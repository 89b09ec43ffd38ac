-- `readings` holds exactly the readings, in the order of their scripts; and what it is of an empty record, and of one with events.
-- Assumes nothing.
use mathlib.Core.Path.{◌≡◌, refl, sym, ap, ◌∙◌, subst, subst⁻¹}
use mathlib.Core.Logic.{⊎_elim}
use mathlib.Core.List.Memᴰ
use mathlib.Core.List.{List, [], ◌∷◌, map}
use Prim.Native.Nat.{ℕ, ◌+◌, ◌*◌, ◌≤◌, ◌<◌}
use native.Mathlib.Nat.{sub-zero}
use native.Mathlib.Omega.{arith}
use native.Mathlib.Decide.{ℕ_discrete}
use lib.Dec.{T, eqb→eq}
use lib.ListN.{length, get_or, length-append, length-map}
use Rattle.bits.specs.Truth.{same}
use Rattle.bits.proofs.Truths.{same_eq, same_other}
use Rattle.derivation.specs.Grammar.{Grammar}
use Rattle.derivation.specs.Tree.{Tree, Derives, Derivable, script, script_word_count, Spells}
use Rattle.derivation.specs.Reading.{Reading, quiet, derived, Reads, Admitted, spelling, IsReading}
use Rattle.derivation.specs.Derivations.{gate, trees, derivations, quiet_fits, readings, count}
use Rattle.derivation.specs.Numbering.{none}
use Rattle.derivation.proofs.Lists.{◌∈◌, eq→eqb, both, first, second, truth_and, truth_eqb, gate_of, gate_yes, gate_no, length_gate, map_at, in_get_d, no_length}
use Rattle.derivation.proofs.Orders.{By, rising_append, rising_gate, rising_map, Rising}
use Rattle.derivation.proofs.Exact.{some_events, derivations_sound, derivations_complete}
use Rattle.derivation.proofs.Rising.{Earlier, derivations_rising}
use Rattle.derivation.proofs.Scripts.{script_length}

module _ (g : Grammar) (w : List ℕ) where
  abbrev trees_of : List Tree
  trees_of = derivations g w 0 0 (length w)

  -- ---- the elements
  fits_quiet : T (quiet_fits g w) → Reads g w quiet
  fits_quiet t = search (first, second, eqb→eq)

  quiet_fits_is : Reads g w quiet → T (quiet_fits g w)
  quiet_fits_is d = search (both, eq→eqb)

  pub readings_sound : (r : Reading) → r ∈ readings g w → Reads g w r
  unfolding readings
  readings_sound r m =
      ⊎_elim
      (λ a. let q = gate_of (quiet_fits g w) (quiet ∷ []) a in subst⁻¹ (Reads g w) (Memᴰ.eq_of_singleton q.1) (fits_quiet q.0))
      (λ a. let q = Memᴰ.of_map derived trees_of a in subst (Reads g w) q.2 (derivations_sound g w 0 0 (length w) q.1))
      (Memᴰ.append_cases (gate (quiet_fits g w) (quiet ∷ [])) m)

  pub readings_complete : (r : Reading) → Reads g w r → r ∈ readings g w
  unfolding readings
  readings_complete quiet d =
      let m : quiet ∈ gate (quiet_fits g w) (quiet ∷ []) = rw (gate_yes (quiet_fits g w) (quiet ∷ []) (quiet_fits_is d)) (Memᴰ.head refl) in
      Memᴰ.append_left (map derived trees_of) m
  readings_complete (derived t) d =
      Memᴰ.append_right (gate (quiet_fits g w) (quiet ∷ [])) (Memᴰ.map derived (derivations_complete g w 0 0 (length w) t d))

  -- ---- their order: an empty record has no derivation, so nothing stands behind the quiet reading
  keeps : (t u : Tree) → Earlier t u → By spelling (derived t) (derived u)
  unfolding spelling
  keeps t u e = e

  pub readings_rising : Rising (By spelling) (readings g w)
  unfolding readings
  readings_rising =
      rising_append (By spelling) (gate (quiet_fits g w) (quiet ∷ [])) (map derived trees_of)
      (rising_gate (By spelling) (quiet_fits g w) (quiet ∷ []) (λ y m. absurd (Memᴰ.not-nil m), tt))
      (rising_map Earlier (By spelling) derived keeps trees_of (derivations_rising g w 0 0 (length w)))
      (λ x y m n.
      let a = fits_quiet (gate_of (quiet_fits g w) (quiet ∷ []) m).0 in
      let b = Memᴰ.of_map derived trees_of n in
      absurd (omega (arith, a.1, some_events g w 0 0 (length w) b.0 (derivations_sound g w 0 0 (length w) b.1))))

  -- ---- how long a script is: 2 (2 n - 1) words, and none for an empty record
  pub spelling_length : (r : Reading) → Reads g w r → length (spelling r) ≡ script_word_count (length w)
  unfolding spelling
  spelling_length quiet d = omega (arith, d.1)
  spelling_length (derived t) d = script_length g w 0 0 (length w) t d ∙ rw sub-zero

  pub reading_length : (s : List ℕ) → IsReading g w s → length s ≡ script_word_count (length w)
  reading_length s p = sym (ap length p.spelt) ∙ spelling_length p.reading p.reads

  -- ---- without the quiet one, the derivations alone: where the flag is not 1, and of a record with events
  pub by_rules : (Reads g w quiet → ⊥) → readings g w ≡ map derived trees_of
  unfolding readings
  by_rules h = rw (gate_no (quiet_fits g w) (quiet ∷ []) (λ t. h (fits_quiet t)))

  pub admitted_of : Derivable g w 0 0 (length w) → Admitted g w
  admitted_of d = (derived d.0, d.1)

  pub reading_of : (s : List ℕ) → Spells g w 0 0 (length w) s → IsReading g w s
  unfolding spelling
  reading_of s p = record { reading = derived p.tree; reads = p.derives; spelt = p.spelt }

  module _ (some : 0 < length w) where
    derived_only : readings g w ≡ map derived trees_of
    derived_only = by_rules (λ d. omega (arith, d.1))

    pub count_events : length (readings g w) ≡ count g w 0 0 (length w)
    unfolding count
    count_events = rw derived_only (length-map trees_of derived)

    pub reading_at : (k : ℕ) → k < length (readings g w) → spelling (get_or (readings g w) k quiet) ≡ script (get_or trees_of k none)
    unfolding spelling
    reading_at k h = rw derived_only (ap spelling (map_at derived trees_of k none quiet (rw (derived_only, length-map) at h)))

    pub of_admitted : Admitted g w → Derivable g w 0 0 (length w)
    of_admitted (quiet, d) = absurd (omega (arith, d.1))
    of_admitted (derived t, d) = (t, d)

    pub of_reading : (s : List ℕ) → IsReading g w s → Spells g w 0 0 (length w) s
    unfolding spelling
    of_reading s p = go p.reading p.reads p.spelt
      where
        go : (r : Reading) → Reads g w r → spelling r ≡ s → Spells g w 0 0 (length w) s
        go quiet d e = absurd (omega (arith, d.1))
        go (derived t) d e = record { tree = t; derives = d; spelt = e }

  -- ---- of an empty record, the quiet one or none
  module _ (empty : length w ≡ 0) where
    no_derivation : (t : Tree) → Derives g w 0 0 (length w) t → ⊥
    no_derivation t d = omega (arith, some_events g w 0 0 (length w) t d)

    pub count_quiet : g.quiet ≤ 1 → length (readings g w) ≡ g.quiet
    unfolding readings derivations trees
    count_quiet h = rw (empty, length-append, length_gate, truth_and, truth_eqb) (flag g.quiet h)
      where
        flag : (f : ℕ) → f ≤ 1 → same f 1 * 1 * 1 + 0 ≡ f
        flag f l = elim (ℕ_discrete f 1) [ yes e ↦ omega (arith, same_eq f 1 e) | no e ↦ omega (arith, same_other f 1 e) ]

    pub admitted_quiet : g.quiet ≡ 1 → Admitted g w
    admitted_quiet e = (quiet, (e, empty))

    pub quiet_admitted : Admitted g w → g.quiet ≡ 1
    quiet_admitted (quiet, d) = d.0
    quiet_admitted (derived t, d) = absurd (no_derivation t d)

    pub reading_quiet : (s : List ℕ) → length s ≡ 0 → g.quiet ≡ 1 → IsReading g w s
    unfolding spelling
    reading_quiet s l e = record { reading = quiet; reads = (e, empty); spelt = sym (no_length s l) }

    pub quiet_reading : (s : List ℕ) → IsReading g w s → g.quiet ≡ 1
    quiet_reading s p = quiet_admitted (p.reading, p.reads)

    -- the one number is 0, of the empty script
    pub spelling_quiet : (k : ℕ) → k < length (readings g w) → spelling (get_or (readings g w) k quiet) ≡ []
    spelling_quiet k h = no_length _ (spelling_length _ (readings_sound _ (in_get_d quiet (readings g w) k h)) ∙ omega arith)
