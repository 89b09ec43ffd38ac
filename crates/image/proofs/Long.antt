-- An image longer than the longest acceptable one is refused by its first bytes: the first 2,316 of them give the same refusal.
-- Assumes nothing.
use Prim.Native.Nat.{ℕ, ◌+◌, ◌*◌, ◌<◌}
use native.Mathlib.Omega.{arith}
use mathlib.Core.Path.{◌≡◌, sym, ap₂, ◌∙◌}
use mathlib.Core.Logic.{inl, inr, ⊎_elim}
use mathlib.Core.List.{List, ◌∷◌}
use lib.ListN.{length, take}
use lib.Seq.{get_or-take, length-take-le}
use Rattle.derivation.specs.Grammar.{Grammar}
use Rattle.image.specs.Answer.{Tested}
use Rattle.image.specs.Refusal.{Row, ◌unless◌, FirstOf, First}
use Rattle.bits.specs.Truth.{same}
use Rattle.layout.specs.Layout.{header_bytes, byte_in, word_in, quiet_in, decode, Sized}
use Rattle.layout.proofs.Decoded.{rules_from_low}
use Rattle.image.specs.Image.{Marked, Versioned, Ranged, byte_rows, rule_rows, image_rows, Names, TestedIs}
use Rattle.image.specs.Accepted.{longest_image}
use Rattle.image.proofs.Refusals.{alone}
use Rattle.image.proofs.Named.{names_none}
use Rattle.image.proofs.Images.{bytes_other, tested_accepted, accepted_short}

-- two tables, row by row: where a demand holds in both the rest decides
carry : {k n : ℕ} {P Q : Type 0} {rows more : List Row} → (P → Q) → (Q → P) → (P → First rows n → First more n)
    → First ((k unless P) ∷ rows) n → First ((k unless Q) ∷ more) n
carry {k} {n} {P} {Q} {rows} {more} f h on p = go p.is
  where
    go : FirstOf ((k unless P) ∷ rows) n → First ((k unless Q) ∷ more) n
    go (inl x) = record { is = inl (λ q. x.0 (h q), x.1) }
    go (inr x) = record { is = inr (f x.0, (on x.0 (record { is = x.1 })).is) }

-- where it fails in both, it decides
halt : {k n : ℕ} {P Q : Type 0} {rows more : List Row} → (P → ⊥) → (Q → ⊥) → First ((k unless P) ∷ rows) n → First ((k unless Q) ∷ more) n
halt f h = carry (λ p. absurd (f p)) (λ q. absurd (h q)) (λ p. absurd (f p))

-- the same header, of either version
abbrev Alike : List ℕ → List ℕ → Type 0
Alike b d = (k : ℕ) → k < header_bytes + 1 → byte_in b k ≡ byte_in d k

marked_as : (b d : List ℕ) → Alike b d → Marked b → Marked d
marked_as b d e m = record { E = sym (e 0 (omega arith)) ∙ m.E; S = sym (e 1 (omega arith)) ∙ m.S; G = sym (e 2 (omega arith)) ∙ m.G }

word_as : (b d : List ℕ) → Alike b d → (k : ℕ) → k + 1 < header_bytes + 1 → word_in b k ≡ word_in d k
word_as b d e k h = ap₂ (λ (x y : ℕ). x + 256 * y) (e k (omega arith)) (e (k + 1) h)

quiet_as : (b d : List ℕ) → Alike b d → quiet_in b ≡ quiet_in d
unfolding quiet_in
quiet_as b d e = ap₂ (λ (x y : ℕ). same x 2 * y) (word_as b d e 3 (omega arith)) (e header_bytes (omega arith))

ranged_as : (b d : List ℕ) → Alike b d → Ranged b → Ranged d
ranged_as b d e r =
    let s = e 5 (omega arith) in
    let l = word_as b d e 6 (omega arith) in
    let p = word_as b d e 8 (omega arith) in
    let f = quiet_as b d e in
    record {
      some = omega (arith, r.some);
      symbols = omega (arith, r.symbols);
      leaves = omega (arith, r.leaves);
      pairs = omega (arith, r.pairs);
      quiet = omega (arith, r.quiet);
    }

not_sized : (b : List ℕ) → longest_image < length b → Ranged b → Sized b → ⊥
not_sized b l r s = omega (arith, rules_from_low b, r.leaves, r.pairs)

versioned_as : (b d : List ℕ) → Alike b d → Versioned b → Versioned d
versioned_as b d e = let v = sym (word_as b d e 3 (omega arith)) in ⊎_elim (λ h. inl (v ∙ h)) (λ h. inr (v ∙ h))

-- two images longer than any that is accepted get the same refusal where their headers are the same
pub begins_alike : (b d : List ℕ) (n : ℕ) → longest_image < length b → longest_image < length d → Alike b d
    → First (image_rows b) n → First (image_rows d) n
begins_alike b d n l m e p =
    let f : Alike d b = λ k h. sym (e k h) in
    carry (λ h. omega arith) (λ h. omega arith) (λ _.
    carry (marked_as b d e) (marked_as d b f) (λ _.
    carry (versioned_as b d e) (versioned_as d b f) (λ _.
    carry (ranged_as b d e) (ranged_as d b f) (λ r.
    halt (not_sized b l r) (not_sized d m (ranged_as b d e r)))))) p

-- they are refused by their bytes, and so no rule is named
pub long_names : (b : List ℕ) (n r : ℕ) → longest_image < length b → First (image_rows b) n → Names (decode b) n r → {g : Grammar} → Names g n r
long_names b n r l p m =
    let o = bytes_other b n (alone (byte_rows b) (rule_rows (decode b)) n (λ h. not_sized b l h.1.1.1.0 h.1.1.1.1.0) p) in
    names_none o.0 o.1 (m.other o.0 o.1)

-- nobody need read more than 2,316 bytes of an image: the test of those is the test of all
pub first_bytes : (b : List ℕ) (t : Tested) → longest_image < length b
    → TestedIs (image_rows (take (longest_image + 1) b)) (decode (take (longest_image + 1) b)) t → TestedIs (image_rows b) (decode b) t
first_bytes b t l p =
    let d = take (longest_image + 1) b in
    let s : length d ≡ longest_image + 1 = length-take-le (longest_image + 1) b (omega arith) in
    record {
      refusal = begins_alike d b t.refusal (omega arith) l (λ k h. get_or-take (longest_image + 1) b k 0 (omega arith)) p.refusal;
      rule = long_names d t.refusal t.rule (omega arith) p.refusal p.rule;
      accepted = λ e. absurd (omega (arith, accepted_short d (tested_accepted d t p e)));
      refused = p.refused;
    }
