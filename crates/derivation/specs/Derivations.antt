-- Promised: every derivation of [A, i, k] and every reading, the earliest script first, and how many there are.
-- How the lists are made need not be believed: they are the only ones with `NumbersDerivations g w A i k` and `NumbersReadings g w`
-- (`derivations_numbered`, `readings_numbered`, `numbers_only`), and `known` is the only one that is `Telling` (`known_telling`, `telling_only`).
-- Assumes nothing.
use Rattle.std.specs.Prelude.{Bool, true, false, ◌&&◌, List, [], ◌∷◌, ◌++◌, map, ℕ, zero, suc, ◌+◌, ◌-◌, min, eqb, ltb, length, get_or}
use Rattle.derivation.specs.Grammar.{Grammar, event_rule_count, pair_rule_count, event_rule, pair_rule}
use Rattle.derivation.specs.Tree.{Tree, leaf, node, script}
use Rattle.derivation.specs.Reading.{Reading, quiet, derived, spelling}
use Rattle.derivation.specs.Numbering.{none, Place}

-- ---- lists

-- f 0 ++ f 1 ++ .. ++ f (n - 1)
unfoldable pub join {ℓ} : {X : Type ℓ} → ℕ → (ℕ → List X) → List X
join zero f = []
join (suc n) f = join n f ++ f n

-- the list where the test holds, and else the empty one
unfoldable pub gate {ℓ} : {X : Type ℓ} → Bool → List X → List X
gate true l = l
gate false l = []

-- h t u for each t of the first list, and for it each u of the second
unfoldable pub cross {ℓ} : {X : Type ℓ} → (X → X → X) → List X → List X → List X
cross h [] us = []
cross h (t ∷ ts) us = map (h t) us ++ cross h ts us

-- ---- derivations

-- what is known of shorter stretches: a list of derivations for each symbol and stretch
abbrev pub Below : Type 0
Below = ℕ → ℕ → ℕ → List Tree

-- event rule r turns A into event i + 1, and k is i + 1
abbrev pub leaf_fits : Grammar → List ℕ → ℕ → ℕ → ℕ → ℕ → Bool
leaf_fits g w A i k r = eqb (event_rule g r).event (get_or w i 0) && eqb (event_rule g r).symbol A && ltb i (length w) && eqb k (i + 1)

-- the derivation of A over (i, k) by event rule r, if there is one
unfoldable pub leaf_at : Grammar → List ℕ → ℕ → ℕ → ℕ → ℕ → List Tree
leaf_at g w A i k r = gate (leaf_fits g w A i k r) (leaf r (i + 1) ∷ [])

-- the derivations of A over (i, k) by pair rule b and the split j
unfoldable pub nodes_at : Grammar → Below → ℕ → ℕ → ℕ → ℕ → ℕ → List Tree
nodes_at g below A i k b j =
    gate (eqb (pair_rule g b).symbol A)
    (cross (node (event_rule_count g + b) j) (below (pair_rule g b).left i j) (below (pair_rule g b).right j k))

-- those by pair rule b and any split j, i < j < k
unfoldable pub splits_at : Grammar → Below → ℕ → ℕ → ℕ → ℕ → List Tree
splits_at g below A i k b = join (k - (i + 1)) (λ x. nodes_at g below A i k b (i + 1 + x))

-- every derivation of A over (i, k), from those over the shorter stretches inside it
unfoldable pub level : Grammar → List ℕ → Below → Below
level g w below A i k = join (event_rule_count g) (leaf_at g w A i k) ++ join (pair_rule_count g) (splits_at g below A i k)

-- every derivation of A over (i, k) that is at most f nodes high
unfoldable pub trees : Grammar → List ℕ → ℕ → Below
trees g w zero A i k = []
trees g w (suc f) A i k = level g w (λ B x y. trees g w f B x y) A i k

-- a tree over k - i events is at most that high
unfoldable pub derivations : Grammar → List ℕ → ℕ → ℕ → ℕ → List Tree
derivations g w A i k = trees g w (k - i) A i k

-- ---- readings

-- the flag is 1, and the record is empty
abbrev pub quiet_fits : Grammar → List ℕ → Bool
quiet_fits g w = eqb g.quiet 1 && eqb (length w) 0

-- the readings, reading 0 first, and their scripts
unfoldable pub readings : Grammar → List ℕ → List Reading
readings g w = gate (quiet_fits g w) (quiet ∷ []) ++ map derived (derivations g w 0 0 (length w))

unfoldable pub scripts : Grammar → List ℕ → List (List ℕ)
scripts g w = map spelling (readings g w)

-- the scripts of readings number k to k + c - 1, one after the other
unfoldable pub page_of : Grammar → List ℕ → (k c : ℕ) → List ℕ
page_of g w k c = join c (λ x. spelling (get_or (readings g w) (k + x) quiet))

-- s is the script of reading number q
abbrev pub NumberOf : Grammar → (w s : List ℕ) → ℕ → Type 0
NumberOf g w s q = Place spelling quiet (readings g w) s q

-- s is the script of derivation number q of A over (i, k)
abbrev pub RankOf : Grammar → List ℕ → (A i k : ℕ) → List ℕ → ℕ → Type 0
RankOf g w A i k s q = Place script none (derivations g w A i k) s q

-- ---- how many

-- the number of derivations of A over (i, k)
unfoldable pub count : Grammar → List ℕ → ℕ → ℕ → ℕ → ℕ
count g w A i k = length (derivations g w A i k)

-- 1 where [A, i, k] is derivable, else 0
unfoldable pub known : Grammar → List ℕ → (i k A : ℕ) → ℕ
known g w i k A = min 1 (count g w A i k)
