-- Of a record with events no answer depends on the image's flag: what one accepted image gives, another with the same rules gives.
-- Assumes nothing.
use mathlib.Core.Path.{◌≡◌, sym, ap, ◌∙◌, subst, subst⁻¹}
use mathlib.Core.Logic.{inl, inr}
use mathlib.Core.List.{List, [], ◌∷◌, ◌++◌}
use Prim.Native.Nat.{ℕ, ◌+◌, ◌*◌, ◌≤◌, ◌<◌}
use native.Mathlib.Omega.{arith}
use lib.ListN.{length, get_or, drop}
use Rattle.bits.specs.Truth.{Decides}
use Rattle.bits.proofs.Truths.{decides_as}
use Rattle.derivation.specs.Grammar.{Grammar, flagged}
use Rattle.derivation.specs.Tree.{script_word_count}
use Rattle.derivation.specs.Reading.{Reading, quiet, spelling, IsReading}
use Rattle.derivation.specs.Derivations.{join, readings, count, page_of, NumberOf}
use Rattle.derivation.proofs.Flag.{derivations_flagged, readings_flagged, reading_flagged, flagged_reading}
use Rattle.layout.specs.Layout.{decode}
use Rattle.image.specs.Refusal.{◌unless◌, FirstOf, First}
use Rattle.image.specs.Image.{image_rows, event_rows}
use Rattle.image.specs.Accepted.{Accepted}
use Rattle.image.proofs.Refusals.{behind}
use Rattle.image.proofs.Flags.{rows_flagged, names_flagged}
use Rattle.table.specs.Table.{held, table_words, Filled}
use Rattle.readings.specs.Answer.{Counted}
use Rattle.readings.specs.Answer.{Read}
use Rattle.readings.specs.Answer.{Paged}
use Rattle.readings.specs.Answer.{Checked}
use Rattle.readings.specs.Answer.{Found}
use Rattle.readings.specs.Count.{how_many, table_rows, CountIs}
use Rattle.readings.specs.Reading.{room_rows, number_rows, ReadingIs}
use Rattle.readings.specs.Page.{on_page, PageIs}
use Rattle.readings.specs.Check.{CheckIs}
use Rattle.readings.specs.Number.{script_rows, NumberIs}

-- ---- of a grammar with another flag
module _ (q : ℕ) (g : Grammar) (w : List ℕ) where
  count_same : (A i k : ℕ) → count (flagged q g) w A i k ≡ count g w A i k
  unfolding count
  count_same A i k = ap length (derivations_flagged q g w A i k)

  filled_flagged : (t u : List ℕ) → Filled g w t u → Filled (flagged q g) w t u
  unfolding flagged
  filled_flagged t u f = record { frame = f.frame; counts = λ A i k l h m. f.counts A i k l h m ∙ ap held (sym (count_same A i k)) }

  module _ (some : 0 < length w) where
    many_same : how_many (flagged q g) w ≡ how_many g w
    many_same = ap length (readings_flagged q g w some)

    number_flagged : (s : List ℕ) (x : ℕ) → NumberOf g w s x → NumberOf (flagged q g) w s x
    number_flagged s x n =
        let e = readings_flagged q g w some in
        record { below = subst⁻¹ (λ (l : List Reading). x < length l) e n.below; spelt = ap (λ (l : List Reading). spelling (get_or l x quiet)) e ∙ n.spelt }

    flagged_number : (s : List ℕ) (x : ℕ) → NumberOf (flagged q g) w s x → NumberOf g w s x
    flagged_number s x n =
        let e = readings_flagged q g w some in
        record { below = subst (λ (l : List Reading). x < length l) e n.below; spelt = sym (ap (λ (l : List Reading). spelling (get_or l x quiet)) e) ∙ n.spelt }

    script_rows_is : (s : List ℕ) (n : ℕ) → FirstOf (script_rows g w s) n → FirstOf (script_rows (flagged q g) w s) n
    script_rows_is s n (inl f) = inl ((λ d. f.0 (flagged_reading q g w some s d)), f.1)
    script_rows_is s n (inr (d, inl f)) = inr (reading_flagged q g w some s d, inl ((λ h. f.0 (λ x m. h x (number_flagged s x m))), f.1))
    script_rows_is s n (inr (d, inr f)) = inr (reading_flagged q g w some s d, inr ((λ x m. f.0 x (flagged_number s x m)), f.1))

-- ---- of two images
module _ (b c : List ℕ) (q : ℕ) (e : decode c ≡ flagged q (decode b)) (x : Accepted b) (y : Accepted c) (w : List ℕ) (some : 0 < length w) where
  filled : (t u : List ℕ) → Filled (decode b) w t u → Filled (decode c) w t u
  filled t u f = subst (λ (h : Grammar). Filled h w t u) (sym e) (filled_flagged q (decode b) w t u f)

  many : how_many (decode c) w ≡ how_many (decode b) w
  many = ap (λ (h : Grammar). how_many h w) e ∙ many_same q (decode b) w some

  list : readings (decode c) w ≡ readings (decode b) w
  list = ap (λ (h : Grammar). readings h w) e ∙ readings_flagged q (decode b) w some

  symbols : (decode c).symbols ≡ (decode b).symbols
  unfolding flagged
  symbols = ap (λ (h : Grammar). h.symbols) e

  pub check_flag : (s : List ℕ) (r : Checked) → CheckIs b w s r → CheckIs c w s r
  check_flag s r p = record {
    refusal = rows_flagged b c x y (event_rows (length w)) r.refusal p.refusal;
    rule = names_flagged b c x y (event_rows (length w)) r.refusal p.refusal (omega arith) (omega arith) p.rule;
    refused = p.refused;
    answered = λ z. subst⁻¹ (λ (h : Grammar). Decides r.yes (IsReading h w s)) e (decides_as r.yes (reading_flagged q (decode b) w some s) (flagged_reading q (decode b) w some s) (p.answered z));
  }

  pub count_flag : (before : List ℕ) (r : Counted) (after : List ℕ) → CountIs b w before r after → CountIs c w before r after
  count_flag before r after p = record {
    refusal = subst⁻¹ (λ (N : ℕ). First (image_rows c ++ (event_rows (length w) ++ ((10 unless (table_words N (length w) ≤ length before)) ∷ []))) r.refusal) symbols
        (rows_flagged b c x y (event_rows (length w) ++ table_rows b (length w) (length before)) r.refusal p.refusal);
    rule = names_flagged b c x y (event_rows (length w) ++ table_rows b (length w) (length before)) r.refusal p.refusal (omega arith) (omega arith) p.rule;
    refused = p.refused;
    answered = λ z. record { total = (p.answered z).total ∙ ap held (sym many); table = filled before after (p.answered z).table };
  }

  -- of a reading and of a page, which need so many words
  module _ (k size need space n rule : ℕ)
      (p : First (image_rows b ++ (event_rows (length w) ++ (table_rows b (length w) size ++ (room_rows need space ++ number_rows k (how_many (decode b) w))))) n) where
    numbered_rows : First (image_rows c ++ (event_rows (length w) ++ (table_rows c (length w) size ++ (room_rows need space ++ number_rows k (how_many (decode c) w))))) n
    numbered_rows =
        subst⁻¹ (λ (N : ℕ). First (image_rows c ++ (event_rows (length w) ++ (((10 unless (table_words N (length w) ≤ size)) ∷ []) ++ (room_rows need space ++ number_rows k (how_many (decode c) w))))) n) symbols
        (subst⁻¹ (λ (m : ℕ). First (image_rows c ++ (event_rows (length w) ++ (table_rows b (length w) size ++ (room_rows need space ++ number_rows k m)))) n) many
        (rows_flagged b c x y (event_rows (length w) ++ (table_rows b (length w) size ++ (room_rows need space ++ number_rows k (how_many (decode b) w)))) n p))

  pub reading_flag : (k : ℕ) (table room : List ℕ) (r : Read) (table' room' : List ℕ) → ReadingIs b w k table room r table' room' → ReadingIs c w k table room r table' room'
  reading_flag k table room r t o p = record {
    refusal = numbered_rows k (length table) (script_word_count (length w)) (length room) r.refusal r.rule p.refusal;
    rule = names_flagged b c x y (event_rows (length w) ++ (table_rows b (length w) (length table) ++ (room_rows (script_word_count (length w)) (length room) ++ number_rows k (how_many (decode b) w)))) r.refusal
        p.refusal (omega arith) (omega arith) p.rule;
    filled = λ z. filled table t (p.filled z);
    kept = p.kept;
    written = λ z. subst⁻¹ (λ (l : List Reading). o ≡ spelling (get_or l k quiet) ++ drop (script_word_count (length w)) room) list (p.written z);
    unwritten = p.unwritten;
  }

  pub page_flag : (k m : ℕ) (table room : List ℕ) (r : Paged) (table' room' : List ℕ) → PageIs b w k m table room r table' room' → PageIs c w k m table room r table' room'
  unfolding page_of
  page_flag k m table room r t o p = record {
    refusal = numbered_rows k (length table) (m * script_word_count (length w)) (length room) r.refusal r.rule p.refusal;
    rule = names_flagged b c x y (event_rows (length w) ++ (table_rows b (length w) (length table) ++ (room_rows (m * script_word_count (length w)) (length room) ++ number_rows k (how_many (decode b) w)))) r.refusal
        p.refusal (omega arith) (omega arith) p.rule;
    filled = λ z. filled table t (p.filled z);
    kept = p.kept;
    answered = λ z. p.answered z ∙ ap (on_page k m) (sym many);
    refused = p.refused;
    written = λ z. p.written z ∙ ap (λ (l : List ℕ). l ++ drop (r.written * script_word_count (length w)) room) (sym (page_same k r.written));
    unwritten = p.unwritten;
  }
    where
      page_same : (a d : ℕ) → page_of (decode c) w a d ≡ page_of (decode b) w a d
      page_same a d = ap (λ (l : List Reading). join d (λ i. spelling (get_or l (a + i) quiet))) list

  pub number_flag : (s table : List ℕ) (r : Found) (table' : List ℕ) → NumberIs b w s table r table' → NumberIs c w s table r table'
  number_flag s table r t p = record {
    refusal = subst⁻¹ (λ (N : ℕ). First (image_rows c ++ (event_rows (length w) ++ (((10 unless (table_words N (length w) ≤ length table)) ∷ []) ++ script_rows (decode c) w s))) r.refusal) symbols
        (subst⁻¹ (λ (h : Grammar). First (image_rows c ++ (event_rows (length w) ++ (table_rows b (length w) (length table) ++ script_rows h w s))) r.refusal) e
        (behind (image_rows c ++ (event_rows (length w) ++ table_rows b (length w) (length table))) (script_rows (decode b) w s) (script_rows (flagged q (decode b)) w s) r.refusal
        (script_rows_is q (decode b) w some s r.refusal)
        (rows_flagged b c x y (event_rows (length w) ++ (table_rows b (length w) (length table) ++ script_rows (decode b) w s)) r.refusal p.refusal)));
    rule = names_flagged b c x y (event_rows (length w) ++ (table_rows b (length w) (length table) ++ script_rows (decode b) w s)) r.refusal p.refusal (omega arith) (omega arith) p.rule;
    filled = λ z. filled table t (p.filled z);
    kept = p.kept;
    answered = λ z. subst⁻¹ (λ (h : Grammar). NumberOf h w s r.reading) e (number_flagged q (decode b) w some s r.reading (p.answered z));
    refused = p.refused;
  }
