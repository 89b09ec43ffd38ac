-- Least sets of symbols: clauses, each of which gives a symbol where it has all that it needs, give a set that is found by taking out one clause that
-- gives at a time, so that it is decided of every symbol whether it is in it.
-- Assumes nothing.
use mathlib.Core.Path.{◌≡◌, refl, ap, subst}
use mathlib.Core.Logic.Dec
use mathlib.Core.Logic.{◌⊎◌, inl, inr, ⊎_elim}
use mathlib.Core.List.{List, [], ◌∷◌}
use Prim.Native.Nat.{ℕ, zero, suc, ◌≤◌}
use native.Mathlib.Nat.{le_refl}
use native.Mathlib.Decide.{ℕ_discrete}
use native.Mathlib.Omega.{arith}
use lib.ListN.{length}
use Rattle.bits.specs.Truth.{All}
use Rattle.bits.specs.Bit.{bit}
use Rattle.bits.specs.Word.{Has, Within, put}
use Rattle.bits.proofs.Each.{all_as}
use Rattle.bits.proofs.Decisions.{dec_as}
use Rattle.bits.proofs.Sets.{none_in, put_has, put_keeps, put_only}

pub record Clause : Type 0 where
  pub needs : List ℕ
  pub gives : ℕ

-- the clause does not leave the set
abbrev pub Stays : (ℕ → Type 0) → Clause → Type 0
Stays In c = All In c.needs → In c.gives

-- none of them does
abbrev pub AllStay : (ℕ → Type 0) → List Clause → Type 0
AllStay In = All (Stays In)

-- ---- one round
unfoldable pub all? : (s : ℕ) (xs : List ℕ) → Dec (All (Has s) xs)
all? s [] = yes tt
all? s (a ∷ more) = Dec.and (ℕ_discrete (bit s a) 1) (all? s more)

-- a clause that has all that it needs in s, and the others: with what it gives, they are enough
pub record Ready (s : ℕ) (cs : List Clause) : Type 1 where
  pub gives : ℕ
  pub others : List Clause
  pub fewer : length cs ≡ suc (length others)
  pub enough : (P : ℕ → Type 0) → P gives → AllStay P others → AllStay P cs
  pub sound : (P : ℕ → Type 0) → Within s P → AllStay P cs → P gives × AllStay P others

unfoldable pub pick : (s : ℕ) (c : Clause) (cs : List Clause) → Dec (All (Has s) c.needs) → AllStay (Has s) cs ⊎ Ready s cs
    → AllStay (Has s) (c ∷ cs) ⊎ Ready s (c ∷ cs)
pick s c cs (yes h) n = inr (record {
  gives = c.gives;
  others = cs;
  fewer = refl;
  enough = λ P a p. (λ _. a, p);
  sound = λ P f p. (p.0 (all_as (Has s) P f c.needs h), p.1);
})
pick s c cs (no h) (inl p) = inl (λ n. absurd (h n), p)
pick s c cs (no h) (inr o) = inr (record {
  gives = o.gives;
  others = c ∷ o.others;
  fewer = ap suc o.fewer;
  enough = λ P a p. (p.0, o.enough P a p.1);
  sound = λ P f p. let q = o.sound P f p.1 in (q.0, (p.0, q.1));
})

unfoldable pub ready : (s : ℕ) (cs : List Clause) → AllStay (Has s) cs ⊎ Ready s cs
ready s [] = inl tt
ready s (c ∷ cs) = pick s c cs (all? s c.needs) (ready s cs)

-- ---- all rounds
-- the least set with all of s that none of the clauses leaves
pub record Least (s : ℕ) (cs : List Clause) : Type 1 where
  pub set : ℕ
  pub keeps : Within s (Has set)
  pub stays : AllStay (Has set) cs
  pub sound : (P : ℕ → Type 0) → Within s P → AllStay P cs → Within set P

unfoldable pub go_on : (s : ℕ) (cs : List Clause) → AllStay (Has s) cs ⊎ Ready s cs → ((o : Ready s cs) → Least (put s o.gives 1) o.others) → Least s cs
go_on s cs (inl p) more = record { set = s; keeps = λ a h. h; stays = p; sound = λ P f _. f }
go_on s cs (inr o) more =
    let r = more o in
    record {
      set = r.set;
      keeps = λ a h. r.keeps a (put_keeps s o.gives a h);
      stays = o.enough (Has r.set) (r.keeps o.gives (put_has s o.gives)) r.stays;
      sound = λ P f p.
          let q = o.sound P f p in
          r.sound P (λ a h. ⊎_elim (λ e. subst P e q.0) (f a) (put_only s o.gives a h)) q.1;
    }

unfoldable pub found : (n s : ℕ) (cs : List Clause) → length cs ≤ n → Least s cs
found zero s cs l = go_on s cs (ready s cs) (λ o. absurd (omega (arith, o.fewer)))
found (suc n) s cs l = go_on s cs (ready s cs) (λ o. found n (put s o.gives 1) o.others (omega (arith, o.fewer)))

unfoldable pub least : (cs : List Clause) → Least 0 cs
least cs = found (length cs) 0 cs (le_refl (length cs))

-- what stays, and is in all that stay, is decided
unfoldable pub decided : (P : ℕ → Type 0) (cs : List Clause) → AllStay P cs → ((In : ℕ → Type 0) → AllStay In cs → (a : ℕ) → P a → In a) → (a : ℕ) → Dec (P a)
decided P cs p q a =
    let r = least cs in
    dec_as (r.sound P (λ x h. absurd (none_in x h)) p a) (q (Has r.set) r.stays a) (ℕ_discrete (bit r.set a) 1)
