-- How many scripts a page has, from the number of readings held at the limit; that a page of one is a reading; and that a page has the same words
-- as single calls.
-- Assumes nothing.
use mathlib.Core.Path.{◌≡◌, refl, sym, ap, ◌∙◌}
use mathlib.Core.Logic.{inl, inr}
use mathlib.Core.List.{List, [], ◌∷◌, ◌++◌}
use Prim.Native.Nat.{ℕ, ◌+◌, ◌-◌, ◌*◌, ◌≤◌, ◌<◌, min}
use native.Mathlib.Nat.{le_trans, one-mul, mul-le-mul_right}
use native.Mathlib.Omega.{arith}
use lib.ListN.{length, take, drop}
use Rattle.derivation.specs.Tree.{script_word_count}
use Rattle.derivation.proofs.Pages.{page_one, page_at}
use Rattle.layout.specs.Layout.{decode}
use Rattle.image.specs.Refusal.{Row, ◌unless◌, FirstOf, First}
use Rattle.image.specs.Exactly.{AllHold}
use Rattle.image.proofs.Refusals.{all_hold, first_only, past_zero, passed}
use Rattle.image.specs.Image.{most_events}
use Rattle.table.specs.Table.{limit, held}
use Rattle.readings.specs.Answer.{Read}
use Rattle.readings.specs.Answer.{Paged}
use Rattle.readings.specs.Count.{how_many}
use Rattle.readings.specs.Reading.{ReadingPasses, lent_rows, number_rows, reading_rows, ReadingIs}
use Rattle.readings.specs.Page.{on_page, PageIs}
use Rattle.readings.specs.Demand.{Gave, written}
use Rattle.readings.specs.Paging.{GavePage, written_at, Paging}
use Rattle.readings.proofs.Refuses.{number_ok}
use Rattle.readings.proofs.Numbered.{each, gave_number}

-- ---- c of the numbers from k on are below t, which is the number of readings held at the limit, and no more than m
pub size_within : (k many t : ℕ) → t ≡ held many → k < many → k < limit → k ≤ t
size_within k many t e a b = omega arith

module _ (k m many t c : ℕ) (e : t ≡ held many) where
  pub page_told : c ≡ min m (t - k) → c ≡ on_page k m many
  page_told h = rw e at h

pub page_fits : (k m many t c n space : ℕ) → t ≡ held many → k < many → k < limit → c ≡ min m (t - k) → n ≤ most_events → m * script_word_count n ≤ space
    → ((n < 65536) × (c * script_word_count n ≤ space)) × ((k + c ≤ limit) × (k + c ≤ many))
page_fits k m many t c n space e a b h few fits =
    let l : c ≤ m = omega arith in
    ((omega arith, le_trans (mul-le-mul_right (script_word_count n) l) fits), (omega arith, omega arith))

-- ---- a page of one is a reading
pub page_of_one : (b w : List ℕ) (k : ℕ) (table room : List ℕ) (r : Paged) (t o : List ℕ) → k ≤ limit → PageIs b w k 1 table room r t o
    → ReadingIs b w k table room (record { refusal = r.refusal; rule = r.rule }) t o
page_of_one b w k table room r t o small p = record {
  refusal = number;
  rule = p.rule;
  filled = p.filled;
  kept = p.kept;
  written = λ z. rw (one z, one-mul) at (p.written z) ∙ ap (λ (s : List ℕ). s ++ drop (script_word_count (length w)) room) (page_one (decode b) w k);
  unwritten = p.unwritten;
}
  where
    number : First (reading_rows b w k table room) r.refusal
    number = rw one-mul at p.refusal

    -- a number that is answered is below the count and the limit, so that one is left
    one : r.refusal ≡ 0 → r.written ≡ 1
    one z =
        let n = number_ok k _ 0 refl (passed (lent_rows b (length w) (length table) (script_word_count (length w)) (length room)) (number_rows k (how_many (decode b) w)) 0 (omega arith) (rw z at number)) small in
        let e = p.answered z in
        omega (arith, n.0, n.1)

-- ---- beside single calls
-- where a table holds, what follows it decides
beyond : (rows more : List Row) (n : ℕ) → AllHold rows → First (rows ++ more) n → First more n
beyond rows more n h p = record { is = go rows h p.is }
  where
    go : (rows : List Row) → AllHold rows → FirstOf (rows ++ more) n → FirstOf more n
    go [] h p = p
    go ((k unless P) ∷ rows) h (inl p) = absurd (p.0 h.0)
    go ((k unless P) ∷ rows) h (inr p) = go rows h.1 p.1

module _ (b w : List ℕ) where
  abbrev many : ℕ
  many = how_many (decode b) w

  module _ (k m c : ℕ) (o : List ℕ) (a : GavePage b w k m c o) where
    first : (k < many) × (k < limit)
    first =
        number_ok k _ 0 refl
        (passed (lent_rows b (length w) (length a.table) (m * script_word_count (length w)) (length a.room)) (number_rows k many) 0 (omega arith) (rw a.success at a.is.refusal))
        a.small

    size : c ≡ on_page k m many
    size = sym a.told ∙ a.is.answered a.success

    -- the numbers on the page are those of readings, and below the limit
    on_page_is : (x : ℕ) → x < c → (k + x < many) × (k + x < limit)
    on_page_is x h = let f = first in let e = size in (omega arith, omega arith)

    script : (x : ℕ) (v : List ℕ) → x < c → Gave b w (k + x) v → written_at w x o ≡ written w v
    script x v h g =
        let f = first in
        let e = size in
        ap (λ (l : List ℕ). take (script_word_count (length w)) (drop (x * script_word_count (length w)) l)) (rw a.told at (a.is.written a.success))
        ∙ page_at (decode b) w k c x _ (omega arith) h ∙ (gave_number b w (k + x) v g).spelt

    behind : c < m → (table room : List ℕ) (r : Read) (t v : List ℕ) → ReadingIs b w (k + c) table room r t v → r.refusal ≡ 0 → ⊥
    behind h table room r t v p z =
        let f = first in
        let e = size in
        let n = number_ok (k + c) _ 0 refl
        (passed (lent_rows b (length w) (length table) (script_word_count (length w)) (length room)) (number_rows (k + c) many) 0 (omega arith) (rw z at p.refusal)) (omega arith) in
        omega (arith, n.0, n.1)

  alike : (k m : ℕ) (table room : List ℕ) (r : Paged) (t o table₁ room₁ : List ℕ) (s : Read) (u v : List ℕ)
      → First (lent_rows b (length w) (length table) (m * script_word_count (length w)) (length room)) 0 → ReadingPasses b w table₁ room₁
      → PageIs b w k m table room r t o → ReadingIs b w k table₁ room₁ s u v → r.refusal ≡ s.refusal
  alike k m table room r t o table₁ room₁ s u v f g p q =
      first_only p.refusal
      (past_zero (lent_rows b (length w) (length table) (m * script_word_count (length w)) (length room)) _ (omega arith) 0 refl f late)
    where
      late : First (number_rows k many) s.refusal
      late = beyond (lent_rows b (length w) (length table₁) (script_word_count (length w)) (length room₁)) _ s.refusal (all_hold _ (omega arith) 0 refl g) q.refusal

  pub paging : Paging b w
  paging = record {
    same = λ k m c x o v a h g. script k m c o a x v h g;
    given = λ k m c x o a h table room r t v f p. let n = on_page_is k m c o a x h in each b w (k + x) table room r t v f n.0 n.1 p;
    most = λ k m c o a. let e = size k m c o a in omega arith;
    ends = behind;
    alike = alike;
  }
