-- Each demand of the tables is decided, so that a table always has an answer, and one that computes.
-- Assumes nothing.
use Prim.Native.Nat.{ℕ, ◌+◌, ◌-◌, ◌*◌, ◌<◌}
use native.Mathlib.Decide.{ℕ_discrete, dec_le, dec_lt}
use mathlib.Core.Path.{◌≡◌}
use mathlib.Core.Logic.Dec
use mathlib.Core.Logic.{◌⊎◌, inl, inr}
use mathlib.Core.List.{List, [], ◌∷◌}
use lib.ListN.{length}
use Rattle.bits.specs.Truth.{All}
use Rattle.bits.proofs.Each.{all_both}
use Rattle.bits.proofs.Decisions.{dec_as, dec_implies, dec_either, dec_every}
use Rattle.derivation.specs.Order.{Before, less, equal}
use Rattle.derivation.specs.Grammar.{Grammar, event_rule_count, rule_total}
use Rattle.derivation.specs.Sound.{most_symbols, most_leaves, most_pairs, InRange, highest, as_numbers, SymbolsFit, Rises}
use Rattle.derivation.specs.Live.{Live}
use Rattle.derivation.proofs.Orders.{none_before}
use Rattle.derivation.proofs.LiveDecided.{live?}
use Rattle.image.specs.Refusal.{Row, ◌unless◌, First}
use Rattle.image.specs.Exactly.{demand}
use Rattle.layout.specs.Layout.{header_bytes, byte_in, version_in, symbols_in, leaves_in, pairs_in, quiet_in, first_rule_at, decode}
use Rattle.image.specs.Image.{most_events, Marked, byte_rows, rule_rows, image_rows, event_rows, record_rows}
use Rattle.image.proofs.Refusals.{none, fail, pass}

-- ---- any table whose demands are decided
abbrev pub IsDecided : Row → Type 0
IsDecided row = Dec (demand row)

abbrev pub Decided : List Row → Type 0
Decided = All IsDecided

unfoldable pub pick : {P : Type 0} → Dec P → ℕ → ℕ → ℕ
pick (yes p) k n = n
pick (no p) k n = k

unfoldable pub answer : (rows : List Row) → Decided rows → ℕ
answer [] d = 0
answer ((k unless P) ∷ rows) d = pick d.0 k (answer rows d.1)

picked : {P : Type 0} (d : Dec P) (k n : ℕ) (rows : List Row) → First rows n → First ((k unless P) ∷ rows) (pick d k n)
unfolding pick
picked (yes p) k n rows f = pass p f
picked (no p) k n rows f = fail p

pub answer_is : (rows : List Row) (d : Decided rows) → First rows (answer rows d)
unfolding answer
answer_is [] d = none
answer_is ((k unless P) ∷ rows) d = picked d.0 k _ rows (answer_is rows d.1)

-- ---- an order of lists
pub before_to : {x y : ℕ} {xs ys : List ℕ} → (x < y) ⊎ ((x ≡ y) × Before xs ys) → Before (x ∷ xs) (y ∷ ys)
before_to (inl p) = less p
before_to (inr p) = equal p.0 p.1

pub before_from : {x y : ℕ} {xs ys : List ℕ} → Before (x ∷ xs) (y ∷ ys) → (x < y) ⊎ ((x ≡ y) × Before xs ys)
before_from (less p) = inl p
before_from (equal e p) = inr (e, p)

unfoldable pub dec_before : (xs ys : List ℕ) → Dec (Before xs ys)
dec_before [] ys = no none_before
dec_before (x ∷ xs) [] = no (elim [ ])
dec_before (x ∷ xs) (y ∷ ys) = dec_as before_to before_from (dec_either (dec_lt x y) (Dec.and (ℕ_discrete x y) (dec_before xs ys)))

-- ---- the demands
unfoldable pub marked? : (b : List ℕ) → Dec (Marked b)
marked? b =
    dec_as (λ p. record { E = p.0; S = p.1.0; G = p.1.1 }) (λ m. (m.E, (m.S, m.G)))
    (Dec.and (ℕ_discrete (byte_in b 0) 0x45) (Dec.and (ℕ_discrete (byte_in b 1) 0x53) (ℕ_discrete (byte_in b 2) 0x47)))

unfoldable pub range? : (N L B flag : ℕ) → Dec (InRange N L B flag)
range? N L B flag =
    dec_as (λ p. record { some = p.0.0; symbols = p.0.1; leaves = p.1.0; pairs = p.1.1.0; quiet = p.1.1.1 })
    (λ r. ((r.some, r.symbols), (r.leaves, (r.pairs, r.quiet))))
    (Dec.and (Dec.and (dec_le 1 N) (dec_le N most_symbols)) (Dec.and (dec_le L most_leaves) (Dec.and (dec_le B most_pairs) (dec_le flag 1))))

unfoldable pub fit? : (g : Grammar) (r : ℕ) → Dec (SymbolsFit g r)
fit? g r = dec_lt (highest g r) g.symbols

unfoldable pub rises? : (g : Grammar) (r : ℕ) → Dec (Rises g r)
rises? g r =
    dec_implies (dec_lt 0 r)
    (dec_implies (Dec.not (ℕ_discrete r (event_rule_count g))) (dec_before (as_numbers g (r - 1)) (as_numbers g r)))

-- ---- the tables
unfoldable pub bytes_decided : (b : List ℕ) → Decided (byte_rows b)
bytes_decided b = (
  dec_le header_bytes (length b),
  (
    marked? b,
    (
      dec_either (ℕ_discrete (version_in b) 1) (ℕ_discrete (version_in b) 2),
      (range? (symbols_in b) (leaves_in b) (pairs_in b) (quiet_in b), (ℕ_discrete (length b) (first_rule_at b + 3 * (leaves_in b + pairs_in b)), tt)),
    ),
  ),
)

unfoldable pub rules_decided : (g : Grammar) → Decided (rule_rows g)
rules_decided g = (
  dec_every (rule_total g) (SymbolsFit g) (fit? g),
  (dec_every (rule_total g) (Rises g) (rises? g), (dec_every g.symbols (Live g) (live? g), tt)),
)

unfoldable pub image_decided : (b : List ℕ) → Decided (image_rows b)
image_decided b = all_both IsDecided (byte_rows b) (rule_rows (decode b)) (bytes_decided b) (rules_decided (decode b))

unfoldable pub record_decided : (b : List ℕ) (n : ℕ) → Decided (record_rows b n)
record_decided b n = all_both IsDecided (image_rows b) (event_rows n) (image_decided b) (dec_le n most_events, tt)

-- the refusal of any image, and of any image and number of events
unfoldable pub image_refusal : List ℕ → ℕ
image_refusal b = answer (image_rows b) (image_decided b)

pub image_answered : (b : List ℕ) → First (image_rows b) (image_refusal b)
unfolding image_refusal
image_answered b = answer_is (image_rows b) (image_decided b)

unfoldable pub record_refusal : List ℕ → ℕ → ℕ
record_refusal b n = answer (record_rows b n) (record_decided b n)

pub record_answered : (b : List ℕ) (n : ℕ) → First (record_rows b n) (record_refusal b n)
unfolding record_refusal
record_answered b n = answer_is (record_rows b n) (record_decided b n)
