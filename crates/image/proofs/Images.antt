-- Laws of the two tests: one answer only, what the answer 0 gives, what 15 says, and how a service goes on from them.
-- Assumes nothing.
use Prim.Native.Nat.{ℕ, ◌%◌, ◌≤◌, ◌<◌}
use native.Mathlib.Decide.{ℕ_discrete}
use native.Mathlib.Omega.{arith}
use mathlib.Core.Path.{◌≡◌, refl, sym, ◌∙◌, subst, subst₂}
use mathlib.Core.Logic.{inl, inr, ◌≢◌}
use mathlib.Core.List.{List, [], ◌∷◌, ◌++◌}
use lib.ListN.{length}
use Rattle.bits.specs.Truth.{Every}
use Rattle.bits.proofs.Each.{all_front, all_back}
use Rattle.derivation.specs.Grammar.{Grammar, rule_total}
use Rattle.derivation.specs.Sound.{SymbolsFit, Rises, Sound}
use Rattle.derivation.specs.Live.{Live, Dead}
use Rattle.derivation.proofs.LiveDecided.{dead_symbol, not_all_live}
use Rattle.image.specs.Answer.{Tested}
use Rattle.image.specs.Refusal.{Row, ◌unless◌, FirstOf, First}
use Rattle.image.specs.Exactly.{Exactly, demand, AllHold}
use Rattle.layout.specs.Layout.{decode, Whole}
use Rattle.image.specs.Image.{most_events, most_event_bytes, byte_rows, rule_rows, event_rows, event_byte_rows, image_rows, record_rows, record_byte_rows, Marked, Versioned, Ranged, Names, Gives, GivesCounts, TestedIs}
use Rattle.image.specs.Accepted.{Accepted, longest_image}
use Rattle.image.proofs.Refusals.{Lacks, Positive, none, fail, pass, first_only, first_zero, all_hold, first_hit, first_pass, past_zero, reached, passed, never}
use Rattle.image.proofs.Named.{names_same, names_none, names_before}
use Rattle.layout.proofs.Decoded.{leaf_count, pair_count, symbol_count, quiet_flag, rules_from_low}

-- ---- one answer only
gives_only : (t u : Tested) (N L B : ℕ) → t.refusal ≡ u.refusal → t.rule ≡ u.rule → Gives t N L B → Gives u N L B → t ≡ u
gives_only t u N L B e f p q = λ i. record {
  refusal = e i;
  rule = f i;
  symbols = (p.symbols ∙ sym q.symbols) i;
  leaves = (p.leaves ∙ sym q.leaves) i;
  pairs = (p.pairs ∙ sym q.pairs) i;
}

pub tested_only : {rows : List Row} {g : Grammar} {t u : Tested} → TestedIs rows g t → TestedIs rows g u → t ≡ u
tested_only {t = t} {u = u} p q = go (ℕ_discrete t.refusal 0)
  where
    e : t.refusal ≡ u.refusal
    e = first_only p.refusal q.refusal

    f : t.rule ≡ u.rule
    f = names_same e p.rule q.rule

    go : Dec (t.refusal ≡ 0) → t ≡ u
    go (yes z) = gives_only t u _ _ _ e f (p.accepted z) (q.accepted (sym e ∙ z))
    go (no z) = gives_only t u _ _ _ e f (p.refused z) (q.refused (λ w. z (e ∙ w)))

-- ---- what a test answers that refuses
pub refusal : (rows : List Row) (g : Grammar) (t : Tested) (n r : ℕ) → n ≢ 0 → First rows n → Names g n r
    → (t.refusal ≡ n) × (t.rule ≡ r) × Gives t 0 0 0 → TestedIs rows g t
refusal rows g t n r z p m q = record {
  refusal = subst (First rows) (sym q.0) p;
  rule = subst₂ (Names g) (sym q.0) (sym q.1) m;
  accepted = λ e. absurd (z (sym q.0 ∙ e));
  refused = λ _. q.2;
}

-- and what one answers that accepts
pub acceptance : (rows : List Row) (g : Grammar) (t : Tested) → First rows 0 → (t.refusal ≡ 0) × (t.rule ≡ 0) × GivesCounts t g → TestedIs rows g t
acceptance rows g t p q = record {
  refusal = subst (First rows) (sym q.0) p;
  rule = names_before (omega (arith, q.0)) q.1;
  accepted = λ _. q.2;
  refused = λ z. absurd (z q.0);
}

-- ---- within the test of an image
-- a refusal by the bytes is not one of the two that name a rule
pub bytes_other : (b : List ℕ) (n : ℕ) → First (byte_rows b) n → (n ≢ 6) × (n ≢ 7)
bytes_other b n p = (lacks 6 (λ z. omega arith) (omega arith), lacks 7 (λ z. omega arith) (omega arith))
  where
    lacks : (m : ℕ) → m ≢ 0 → Lacks m (byte_rows b) → n ≢ m
    lacks m z u e = never (byte_rows b) m z u (subst (First (byte_rows b)) e p)

pub bytes_name : (b : List ℕ) {g : Grammar} (n r : ℕ) → First (byte_rows b) n × (r ≡ 0) → Names g n r
bytes_name b n r p = let o = bytes_other b n p.0 in names_none o.0 o.1 p.1

module _ (b : List ℕ) (n : ℕ) (e : n ≡ 0) (p : First (byte_rows b) n) where
  pub bytes_hold : AllHold (byte_rows b)
  bytes_hold = all_hold (byte_rows b) (omega arith) n e p

  pub whole : Whole b
  whole = record { long = bytes_hold.0; sized = bytes_hold.1.1.1.1.0 }

  pub ranged : Ranged b
  ranged = bytes_hold.1.1.1.0

  -- past the bytes the rules decide
  pub by_rules : {m : ℕ} → First (rule_rows (decode b)) m → First (image_rows b) m
  by_rules q = first_pass (byte_rows b) (rule_rows (decode b)) bytes_hold q

-- ---- what is accepted
module _ (b : List ℕ) where
  pub sound : Ranged b → Every (rule_total (decode b)) (SymbolsFit (decode b)) → Every (rule_total (decode b)) (Rises (decode b)) → Sound (decode b)
  sound q f r = record {
    range = record {
      some = rw symbol_count q.some;
      symbols = rw symbol_count q.symbols;
      leaves = rw leaf_count q.leaves;
      pairs = rw pair_count q.pairs;
      quiet = rw quiet_flag q.quiet;
    };
    fit = f;
    rising = r;
  }

  -- from every demand on it
  pub holding : AllHold (image_rows b) → Accepted b
  holding h =
      let r = h.1.1.1.1.1 in
      record {
        marked = h.1.0;
        version = h.1.1.0;
        whole = record { long = h.0; sized = h.1.1.1.1.0 };
        sound = sound h.1.1.1.0 r.0 r.1.0;
        live = r.1.1.0;
      }

  pub accepted : First (image_rows b) 0 → Accepted b
  accepted p = holding (first_zero (image_rows b) (omega arith) p.is)

  -- past 1 to 7 the symbols decide
  by_symbols : Marked b → Versioned b → Whole b → Sound (decode b) → {n : ℕ}
      → First ((15 unless Every (decode b).symbols (Live (decode b))) ∷ []) n → First (image_rows b) n
  by_symbols m v w s p =
      let q = s.range in
      pass w.long
      (pass m
      (pass v
      (pass (record {
        some = rw (← symbol_count b) q.some;
        symbols = rw (← symbol_count b) q.symbols;
        leaves = rw (← leaf_count b) q.leaves;
        pairs = rw (← pair_count b) q.pairs;
        quiet = rw (← quiet_flag b) q.quiet;
      })
      (pass w.sized (pass s.fit (pass s.rising p))))))

  pub accepted_back : Accepted b → First (image_rows b) 0
  accepted_back a = by_symbols a.marked a.version a.whole a.sound (pass a.live none)

  -- 15 says that the grammar is sound and that some symbol is dead
  pub fifteen : First (image_rows b) 15 → Sound (decode b) × ((A : ℕ) × (A < (decode b).symbols) × Dead (decode b) A)
  fifteen p = go (passed (byte_rows b) (rule_rows (decode b)) 15 (omega arith) p).is
    where
      range : Ranged b
      range = ranged b 0 refl (reached (byte_rows b) (rule_rows (decode b)) 15 (omega arith) p)

      go : FirstOf (rule_rows (decode b)) 15 → Sound (decode b) × ((A : ℕ) × (A < (decode b).symbols) × Dead (decode b) A)
      go (inl q) = absurd (omega (arith, q.1))
      go (inr (f, inl q)) = absurd (omega (arith, q.1))
      go (inr (f, inr (r, inl q))) = (sound range f r, dead_symbol (decode b) q.0)
      go (inr (f, inr (r, inr q))) = absurd (omega (arith, q.1))

  -- and is given where nothing before it is
  pub fifteen_back : Marked b → Versioned b → Whole b → Sound (decode b) → (A : ℕ) → A < (decode b).symbols → Dead (decode b) A → First (image_rows b) 15
  fifteen_back m v w s A l d = by_symbols m v w s (fail (not_all_live (decode b) A l d))

  -- an accepted image is at most 2,315 bytes long
  pub accepted_short : Accepted b → length b ≤ longest_image
  accepted_short a = omega (arith, rules_from_low b, a.whole.sized, a.sound.range.leaves, a.sound.range.pairs, leaf_count b, pair_count b)

  pub tested_accepted : (t : Tested) → TestedIs (image_rows b) (decode b) t → t.refusal ≡ 0 → Accepted b
  tested_accepted t p e = accepted (subst (First (image_rows b)) e p.refusal)

  pub tested_exactly : (t : Tested) → TestedIs (image_rows b) (decode b) t → Exactly (t.refusal ≡ 0) (Accepted b)
  tested_exactly t p = record { only = tested_accepted t p; whenever = λ a. first_only p.refusal (accepted_back a) }

  -- the test of a record says the same, and that the events are not too many
  pub record_holding : (n : ℕ) → AllHold (record_rows b n) → Accepted b × (n ≤ most_events)
  record_holding n h = (holding (all_front demand (image_rows b) (event_rows n) h), (all_back demand (image_rows b) (event_rows n) h).0)

  pub record_accepted : (n : ℕ) (t : Tested) → TestedIs (record_rows b n) (decode b) t → t.refusal ≡ 0 → Accepted b × (n ≤ most_events)
  record_accepted n t p e = record_holding n (all_hold (record_rows b n) (omega arith) t.refusal e p.refusal)

  pub record_bytes_holding : (size : ℕ) → AllHold (record_byte_rows b size) → Accepted b × (size ≤ most_event_bytes) × (size % 2 ≡ 0)
  record_bytes_holding size h =
      let e = all_back demand (image_rows b) (event_byte_rows size) h in
      (holding (all_front demand (image_rows b) (event_byte_rows size) h), e.0, e.1.0)

  pub record_bytes_accepted : (size : ℕ) (t : Tested) → TestedIs (record_byte_rows b size) (decode b) t → t.refusal ≡ 0
      → Accepted b × (size ≤ most_event_bytes) × (size % 2 ≡ 0)
  record_bytes_accepted size t p e = record_bytes_holding size (all_hold (record_byte_rows b size) (omega arith) t.refusal e p.refusal)

-- ---- for the test of a record, and for the services above: a table is the one before it and more rows
module _ (rows more : List Row) {g : Grammar} (t : Tested) (p : TestedIs rows g t) where
  pub refused_first : t.refusal ≢ 0 → First (rows ++ more) t.refusal
  refused_first z = first_hit rows more z p.refusal

  pub accepted_first : Positive rows → t.refusal ≡ 0 → {m : ℕ} → First more m → First (rows ++ more) m
  accepted_first o e q = past_zero rows more o t.refusal e p.refusal q
