-- The flag is no rule: which trees are derivations, which symbols are live and, of a record with events, which readings there are and in what order does not
-- depend on it. Said of the lists by their being the only ones with their properties.
-- Assumes nothing.
use mathlib.Core.Path.{◌≡◌}
use mathlib.Core.List.{List}
use Prim.Native.Nat.{ℕ, ◌-◌, ◌<◌}
use native.Mathlib.Omega.{arith}
use lib.ListN.{length}
use Rattle.derivation.specs.Grammar.{Grammar, flagged, event_rule_count, pair_rule}
use Rattle.derivation.specs.Tree.{Tree, leaf, node, Derives, script}
use Rattle.derivation.specs.Reading.{Reading, quiet, derived, Reads, Admitted, spelling, IsReading}
use Rattle.derivation.specs.Live.{Reached, start, left, right, Live}
use Rattle.derivation.specs.Numbering.{none, Numbers, Tells}
use Rattle.derivation.specs.Derivations.{derivations, readings}
use Rattle.derivation.proofs.Numbering.{numbers_only, derivations_numbered, readings_numbered}

-- a list that numbers what one predicate holds of numbers what another does, where the two hold of the same
numbers_alike : {X : Type 0} {Is Is' : X → Type 0} {scriptOf : X → List ℕ} {past : X} {l : List X} → ((x : X) → Is x → Is' x) → ((x : X) → Is' x → Is x)
    → Numbers Is scriptOf past l → Numbers Is' scriptOf past l
numbers_alike to from n = record { gives = λ q h. to _ (n.gives q h); numbered = λ x d. n.numbered x (from x d); earlier = n.earlier }

-- ---- with another flag
module _ (q : ℕ) (g : Grammar) (w : List ℕ) where
  pub derives_flagged : (A i k : ℕ) (t : Tree) → Derives g w A i k t → Derives (flagged q g) w A i k t
  unfolding flagged
  derives_flagged A i k (leaf r p) d =
      record { rule = d.rule; symbol = d.symbol; event = d.event; inside = d.inside; end = d.end; place = d.place }
  derives_flagged A i k (node r j t u) d = (
    record { low = d.0.low; high = d.0.high; symbol = d.0.symbol; after = d.0.after; before = d.0.before },
    derives_flagged (pair_rule g (r - event_rule_count g)).left i j t d.1,
    derives_flagged (pair_rule g (r - event_rule_count g)).right j k u d.2,
  )

  -- a record with events
  pub reads_flagged : 0 < length w → (r : Reading) → Reads g w r → Reads (flagged q g) w r
  reads_flagged some quiet d = absurd (omega (arith, d.1))
  reads_flagged some (derived t) d = derives_flagged 0 0 (length w) t d

-- ---- and back: the grammar is the other with its own flag
module _ (q : ℕ) (g : Grammar) where
  module _ (w : List ℕ) where
    pub flagged_derives : (A i k : ℕ) (t : Tree) → Derives (flagged q g) w A i k t → Derives g w A i k t
    unfolding flagged
    flagged_derives = derives_flagged g.quiet (flagged q g) w

    pub tells_flagged : (A i k x : ℕ) → Tells g w A i k x → Tells (flagged q g) w A i k x
    tells_flagged A i k x t = record {
      yes = λ d. t.yes (d.0, flagged_derives A i k d.0 d.1);
      no = λ n. t.no (λ d. n (d.0, derives_flagged q g w A i k d.0 d.1));
    }

    pub derivations_flagged : (A i k : ℕ) → derivations (flagged q g) w A i k ≡ derivations g w A i k
    derivations_flagged A i k =
        numbers_only (Derives g w A i k) script none _ _ (numbers_alike (flagged_derives A i k) (derives_flagged q g w A i k) (derivations_numbered (flagged q g) w A i k))
        (derivations_numbered g w A i k)

    -- a record with events
    module _ (some : 0 < length w) where
      pub flagged_reads : (r : Reading) → Reads (flagged q g) w r → Reads g w r
      unfolding flagged
      flagged_reads = reads_flagged g.quiet (flagged q g) w some

      pub admitted_flagged : Admitted g w → Admitted (flagged q g) w
      admitted_flagged d = (d.0, reads_flagged q g w some d.0 d.1)

      pub flagged_admitted : Admitted (flagged q g) w → Admitted g w
      flagged_admitted d = (d.0, flagged_reads d.0 d.1)

      pub reading_flagged : (s : List ℕ) → IsReading g w s → IsReading (flagged q g) w s
      reading_flagged s d = record { reading = d.reading; reads = reads_flagged q g w some d.reading d.reads; spelt = d.spelt }

      pub flagged_reading : (s : List ℕ) → IsReading (flagged q g) w s → IsReading g w s
      flagged_reading s d = record { reading = d.reading; reads = flagged_reads d.reading d.reads; spelt = d.spelt }

      pub readings_flagged : readings (flagged q g) w ≡ readings g w
      readings_flagged = numbers_only (Reads g w) spelling quiet _ _ (numbers_alike flagged_reads (reads_flagged q g w some) (readings_numbered (flagged q g) w)) (readings_numbered g w)

  -- ---- live symbols
  reached_flagged : {A : ℕ} → Reached g A → Reached (flagged q g) A
  unfolding flagged
  reached_flagged start = start
  reached_flagged (left b l r) = left b l (reached_flagged r)
  reached_flagged (right b l r) = right b l (reached_flagged r)

  pub live_flagged : (A : ℕ) → Live g A → Live (flagged q g) A
  live_flagged A l = record {
    derives = record {
      events = l.derives.events;
      some = l.derives.some;
      derivable = (l.derives.derivable.0, derives_flagged q g l.derives.events A 0 (length l.derives.events) l.derives.derivable.0 l.derives.derivable.1);
    };
    reached = reached_flagged l.reached;
  }
