-- Laws of a search: what a rule, and rules one after another, add; where nothing is added no rule leaves the set, and then it is what is sought.
-- Assumes nothing.
use Prim.Native.Nat.{ℕ, ◌+◌, ◌-◌, ◌≤◌, ◌<◌}
use native.Mathlib.Nat.{le_refl, le_trans, le_antisymm, add-sub_cancel_left}
use native.Mathlib.Omega.{arith}
use mathlib.Core.Path.{◌≡◌, sym, ◌∙◌, subst, subst⁻¹}
use mathlib.Core.Logic.{⊎_elim}
use borrow.Author.Count.{below_none, below_more}
use mathlib.Core.Bool.{Bool, true, false}
use lib.ListN.{length}
use Rattle.std.specs.Bool.{MatchBool}
use Rattle.std.specs.List.{range_with_len, AllWithin, HoldsAt}
use Rattle.std.proofs.lemmas.List.FromFn.{length-range_with_len, get_or-range_with_len}
use Rattle.bits.specs.Truth.{Every, Decides}
use Rattle.bits.specs.Word.{Has, Within, put}
use Rattle.bits.proofs.Sets.{none_in, put_has, put_keeps, put_only, put_grows}
use Rattle.derivation.specs.Grammar.{Grammar, event_rule_count, pair_rule_count, rule_total, event_rule, pair_rule, rule_symbol}
use Rattle.derivation.specs.Live.{DerivesSome, Reached, start, left, right}
use Rattle.derivation.specs.Sound.{Sound}
use Rattle.derivation.proofs.Sound.{leaf_symbol, pair_symbol, symbol_fits, pair_fits}
use Rattle.derivation.proofs.Live.{Upward, Downward, derives_upward, derives_least, reached_least}
use Rattle.live.specs.declared.Sought.{Sought}
use Rattle.live.specs.declared.Sought.TheVariants.{Deriving, Reachable}
use Rattle.live.specs.Search.{Meets, Covers, Stays, Starts, Grown, Exactly}

module _ (sought : Sought) (g : Grammar) where
  -- ---- steps
  -- a rule that does not apply
  pub grown_none : (s : ℕ) {Q : Type 0} → Q → Grown sought g s Q s
  grown_none s q = record { larger = le_refl s; keeps = λ a h. h; only = λ f. f; ended = λ _. q }

  -- one that puts in a symbol that is sought where all of the set is
  pub grown_put : (s x : ℕ) {Q : Type 0} → (Within s (Meets sought g) → Meets sought g x) → (Has s x → Q) → Grown sought g s Q (put s x 1)
  grown_put s x m q = record {
    larger = put_grows s x;
    keeps = put_keeps s x;
    only = λ f a h. ⊎_elim (λ (e : x ≡ a). subst (Meets sought g) e (m f)) (λ (i : Has s a). f a i) (put_only s x a h);
    ended = λ e. q (subst (λ (t : ℕ). Has t x) e (put_has s x));
  }

  -- one after another: where both add nothing, neither does
  pub grown_both : {s t u : ℕ} {P Q R : Type 0} → Grown sought g s P t → Grown sought g t Q u → (t ≡ s → P → Q → R) → Grown sought g s R u
  grown_both {s} {t} {u} p q f = record {
    larger = le_trans p.larger q.larger;
    keeps = λ a h. q.keeps a (p.keeps a h);
    only = λ o. q.only (p.only o);
    ended = λ e.
        let z : t ≡ s = le_antisymm (subst (λ (n : ℕ). t ≤ n) e q.larger) p.larger in
        f z (p.ended z) (q.ended (e ∙ sym z));
  }

  -- ---- rounds
  pub round_none : (s : ℕ) → Grown sought g s (Every (event_rule_count g) (Stays sought g s)) s
  round_none s = grown_none s (early sought)
    where
      early : (o : Sought) → Every (event_rule_count g) (Stays o g s)
      early Deriving = λ r l m. absurd (omega arith)
      early Reachable = λ r l m. absurd (omega arith)

  pub round_more : {s t u : ℕ} (r : ℕ) → Grown sought g s (Every r (Stays sought g s)) t → Grown sought g t (Stays sought g t r) u
      → Grown sought g s (Every (r + 1) (Stays sought g s)) u
  round_more {s} {t} r p q =
      grown_both p q (λ e a b. below_more (Stays sought g s) r a (subst (λ (x : ℕ). Stays sought g x r) e b))

-- ---- one rule, by what the code reads of it
-- a symbol of a sound grammar has a bit in a set
module _ (g : Grammar) (ok : Sound g) (r x : ℕ) (m : r < rule_total g) where
  pub symbol_small : x ≡ rule_symbol g r → x < 64
  symbol_small e = omega (arith, symbol_fits g ok r m, ok.range.symbols)

  module _ (l : event_rule_count g ≤ r) where
    pub left_small : x ≡ (pair_rule g (r - event_rule_count g)).left → x < 64
    left_small e = omega (arith, (pair_fits g ok r l m).left, ok.range.symbols)

    pub right_small : x ≡ (pair_rule g (r - event_rule_count g)).right → x < 64
    right_small e = omega (arith, (pair_fits g ok r l m).right, ok.range.symbols)

module _ (g : Grammar) (r : ℕ) (l : event_rule_count g ≤ r) (m : r < rule_total g) (s : ℕ) where
  abbrev b : ℕ
  b = r - event_rule_count g

  below : b < pair_rule_count g
  below = omega arith

  pub symbol_added : (x : ℕ) → x ≡ rule_symbol g r → Has s (pair_rule g b).left → Has s (pair_rule g b).right
      → Grown Deriving g s (Stays Deriving g s r) (put s x 1)
  symbol_added x e p q =
      let f : x ≡ (pair_rule g b).symbol = e ∙ pair_symbol g r l m in
      grown_put Deriving g s x (λ o. subst⁻¹ (DerivesSome g) f ((derives_upward g).pair b below (o _ p) (o _ q))) (λ h _ _ _. subst (Has s) f h)

  pub parts_added : (x y : ℕ) → x ≡ (pair_rule g b).left → y ≡ (pair_rule g b).right → Has s (pair_rule g b).symbol
      → Grown Reachable g s (Stays Reachable g s r) (put (put s x 1) y 1)
  parts_added x y e f p =
      grown_both Reachable g
      (grown_put Reachable g s x (λ o. subst⁻¹ (Reached g) e (left b below (o _ p))) (subst (Has s) e))
      (grown_put Reachable g (put s x 1) y (λ o. subst⁻¹ (Reached g) f (right b below (o _ (put_keeps s x _ p)))) (subst (Has (put s x 1)) f))
      (λ z u v _ _. (u, subst (λ (t : ℕ). Has t (pair_rule g b).right) z v))

-- ---- the start
-- the symbols of the first r event rules, and nothing that derives no events
pub record Begun (g : Grammar) (r s : ℕ) : Type 0 where
  pub covers : Every r (λ q. Has s (event_rule g q).symbol)
  pub only : Within s (DerivesSome g)

module _ (g : Grammar) where
  pub begun_none : Begun g 0 0
  begun_none = record { covers = below_none _; only = λ a h. absurd (none_in a h) }

  pub begun_more : (r s x : ℕ) → r < event_rule_count g → x ≡ rule_symbol g r → Begun g r s → Begun g (r + 1) (put s x 1)
  begun_more r s x l e p =
      let f : x ≡ (event_rule g r).symbol = e ∙ leaf_symbol g r l in
      let t = grown_put Deriving g s x {Q = Unit {0}} (λ _. subst⁻¹ (DerivesSome g) f ((derives_upward g).event r l)) (λ _. tt) in
      record {
        covers = below_more _ r (λ q h. t.keeps _ (p.covers q h)) (subst (Has (put s x 1)) f (put_has s x));
        only = t.only p.only;
      }

  pub begun_zero : Starts Reachable g (put 0 0 1)
  begun_zero = record {
    covers = put_has 0 0;
    only = (grown_put Reachable g 0 0 {Q = Unit {0}} (λ _. start) (λ _. tt)).only (λ a h. absurd (none_in a h));
  }

-- ---- the end
module _ (g : Grammar) where
  pub covers_more : (sought : Sought) (s t : ℕ) → Within s (Has t) → Covers sought g s → Covers sought g t
  covers_more Deriving s t k c = λ r l. k _ (c r l)
  covers_more Reachable s t k c = k 0 c

  upward : (s : ℕ) → Covers Deriving g s → Every (rule_total g) (Stays Deriving g s) → Upward g (Has s)
  upward s c f = record {
    event = c;
    pair = λ b l. rw add-sub_cancel_left at (f (event_rule_count g + b) (omega arith) (omega arith));
  }

  downward : (s : ℕ) → Covers Reachable g s → Every (rule_total g) (Stays Reachable g s) → Downward g (Has s)
  downward s c f = record { start = c; left = λ b l h. (both b l h).0; right = λ b l h. (both b l h).1 }
    where
      both : (b : ℕ) → b < pair_rule_count g → Has s (pair_rule g b).symbol → Has s (pair_rule g b).left × Has s (pair_rule g b).right
      both b l = rw add-sub_cancel_left at (f (event_rule_count g + b) (omega arith) (omega arith))

  pub exactly : (sought : Sought) (s : ℕ) → Starts sought g s → Every (rule_total g) (Stays sought g s) → Exactly (Meets sought g) s
  exactly Deriving s p f = record { only = p.only; all = derives_least g (Has s) (upward s p.covers f) }
  exactly Reachable s p f = record { only = p.only; all = reached_least g (Has s) (downward s p.covers f) }

-- what `all` answers of the numbers below n
pub all_below : (n : ℕ) (P : ℕ → Type 0) (ok : Bool)
    → MatchBool ok (AllWithin P (range_with_len 0 n) 0 (length (range_with_len 0 n)))
    ((k : ℕ) × (k < length (range_with_len 0 n)) × HoldsAt (λ a. P a → ⊥) (range_with_len 0 n) k) → Decides ok (Every n P)
all_below n P true h = λ a l. subst P (get_or-range_with_len 0 n a 0 l ∙ omega arith) (h a 0 (omega arith) (omega (arith, length-range_with_len 0 n)))
all_below n P false h = λ e.
    let l : h.0 < n = omega (arith, length-range_with_len 0 n, h.1) in
    h.2 0 (subst⁻¹ P (get_or-range_with_len 0 n h.0 0 l ∙ omega arith) (e h.0 l))
