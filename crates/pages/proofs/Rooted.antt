-- The root of a derivation over more than one event, in the words of its script; and the next derivation from a step of its parts, or from the
-- plan behind it.
-- Assumes nothing.
use Prim.Native.Nat.{ℕ, ◌+◌, ◌-◌, ◌*◌, ◌≤◌, ◌<◌}
use native.Mathlib.Omega.{arith}
use mathlib.Core.Path.{◌≡◌, refl, sym, ap, ◌∙◌}
use mathlib.Core.Logic.{◌≢◌}
use mathlib.Core.Bool.{Bool, true, false}
use mathlib.Core.List.{List, ◌∷◌, ◌++◌, append_assoc}
use Rattle.std.proofs.Common.{Some, None}
use lib.ListN.{length, get_or, drop, length-append}
use lib.Seq.{drop_at}
use Rattle.bits.specs.Sum.{sum, between}
use Rattle.derivation.specs.Grammar.{Grammar, event_rule_count, pair_rule_count, pair_rule}
use Rattle.derivation.specs.Sound.{Sound}
use Rattle.derivation.specs.Tree.{Tree, leaf, node, Derives, script, script_word_count}
use Rattle.derivation.specs.Derivations.{derivations, count}
use Rattle.derivation.specs.Numbering.{none}
use Rattle.derivation.proofs.Sound.{derives_fits}
use Rattle.derivation.proofs.Counts.{by_pair, by_split}
use Rattle.derivation.proofs.Numbering.{derivations_numbered, derivation_once}
use Rattle.derivation.proofs.Places.{leaf_first, node_at, node_room}
use Rattle.lookup.specs.declared.Pair.{Pair}
use Rattle.lookup.specs.Rule.{PairIs}
use Rattle.table.specs.Table.{held, slot_of}
use Rattle.table.specs.Fill.{CountsIn}
use Rattle.unrank.specs.declared.choose.Plan.{Plan}
use Rattle.unrank.specs.Choice.{PlanOk, plan_tree, Planned}
use Rattle.unrank.proofs.Room.{script_words_is}
use Rattle.pages.specs.Step.{Begins, Begun, Stepped, Parted, SomeParted, PartsNext, PartsLast, PartsTo, PartsStepped, LastBy, NextIs}
use Rattle.pages.proofs.Following.{placed}

-- derivation number q is by pair rule b and the split j, and the room begins with it
pub record Rooted (g : Grammar) (w : List ℕ) (A i k b j q : ℕ) (rest room : List ℕ) : Type 0 where
  pub rule : b < pair_rule_count g
  pub symbol : (pair_rule g b).symbol ≡ A
  pub after : i < j
  pub before : j < k
  pub below : q < count g w A i k
  pub x : ℕ
  pub y : ℕ
  pub left : x < count g w (pair_rule g b).left i j
  pub right : y < count g w (pair_rule g b).right j k
  pub tree : get_or (derivations g w A i k) q none
      ≡ node (event_rule_count g + b) j (get_or (derivations g w (pair_rule g b).left i j) x none) (get_or (derivations g w (pair_rule g b).right j k) y none)
  pub text : room ≡ (event_rule_count g + b) ∷ j ∷ (script (get_or (derivations g w (pair_rule g b).left i j) x none) ++ (script (get_or (derivations g w (pair_rule g b).right j k) y none) ++ rest))

module _ (g : Grammar) (w : List ℕ) (A i k : ℕ) where
  derives_at : (q : ℕ) → q < count g w A i k → Derives g w A i k (get_or (derivations g w A i k) q none)
  unfolding count
  derives_at q h = (derivations_numbered g w A i k).gives q h

  pub symbol_known : Sound g → (q : ℕ) → q < count g w A i k → A < g.symbols
  symbol_known o q h = derives_fits g o w A i k (get_or (derivations g w A i k) q none) (derives_at q h)

  -- over one event there is no second
  only_first : Sound g → (q : ℕ) → q < count g w A i k → k ≡ i + 1 → q ≡ 0
  unfolding count
  only_first o q h e = go (get_or (derivations g w A i k) q none) refl (derives_at q h)
    where
      go : (t : Tree) → get_or (derivations g w A i k) q none ≡ t → Derives g w A i k t → q ≡ 0
      go (leaf r p) f d =
          derivation_once g w A i k q 0 h (omega arith)
          (f ∙ rw (e, d.place) (sym (leaf_first g w A i r d.inside d.rule d.symbol d.event o)))
      go (node r j t u) f d = absurd (omega (arith, d.0.after, d.0.before))

  pub more_events : Sound g → 1 < count g w A i k → k ≢ i + 1
  more_events o h e = omega (arith, only_first o 1 h e)

  -- the first two words tell the rule and the split
  pub rooted : (q : ℕ) (rest room : List ℕ) → Begins g w A i k q rest room → k ≢ i + 1 → Rooted g w A i k (get_or room 0 0 - event_rule_count g) (get_or room 1 0) q rest room
  unfolding count script
  rooted q rest room a n = go (get_or (derivations g w A i k) q none) refl (derives_at q a.below)
    where
      go : (t : Tree) → get_or (derivations g w A i k) q none ≡ t → Derives g w A i k t → Rooted g w A i k (get_or room 0 0 - event_rule_count g) (get_or room 1 0) q rest room
      go (leaf r p) f d = absurd (n d.end)
      go (node r j t u) f d =
          let x = (derivations_numbered g w (pair_rule g (r - event_rule_count g)).left i j).numbered t d.1 in
          let y = (derivations_numbered g w (pair_rule g (r - event_rule_count g)).right j k).numbered u d.2 in
          let low = d.0.low in
          let back : event_rule_count g + (r - event_rule_count g) ≡ r = omega arith in
          let words : room ≡ r ∷ j ∷ (script t ++ (script u ++ rest)) = a.text ∙ rw f (ap (λ (l : List ℕ). r ∷ j ∷ l) (append_assoc (script t) (script u) rest)) in
          rw words
          record {
            rule = omega (arith, d.0.high);
            symbol = d.0.symbol;
            after = d.0.after;
            before = d.0.before;
            below = a.below;
            x = x.0;
            y = y.0;
            left = x.1;
            right = y.1;
            tree = f ∙ rw (back, x.2, y.2);
            text = rw (back, x.2, y.2);
          }

  module _ (b j q : ℕ) (rest room : List ℕ) (r : Rooted g w A i k b j q rest room) (p : Pair) (is : PairIs g b p) where
    pub root_parted : Parted g w p i j k (event_rule_count g + b) j r.x r.y rest room
    root_parted = rw (is.left, is.right) (record { left = r.left; right = r.right; text = r.text })

    pub parts_next : (room' : List ℕ) → PartsNext g w p i j k (event_rule_count g + b) j r.x r.y rest room' → Begins g w A i k (q + 1) rest room'
    unfolding script
    parts_next room' n =
        let hx = rw is.left at n.is.left in
        let hy = rw is.right at n.is.right in
        let e : q + 1 ≡ sum b (by_pair g w A i k) + (between i j (by_split g w A i k b) + (n.x' * count g w (pair_rule g b).right j k + n.y')) =
        omega (arith, placed g w A i k b j r.rule r.symbol r.after r.before q r.x r.y r.below r.left r.right r.tree, rw is.right at n.place) in
        let first = script (get_or (derivations g w (pair_rule g b).left i j) n.x' none) in
        let second = script (get_or (derivations g w (pair_rule g b).right j k) n.y' none) in
        record {
          below = rw e (node_room g w A i k b j r.rule r.after r.before n.x' n.y' r.symbol hx hy);
          text = rw (is.left, is.right) at n.is.text
              ∙ rw (e, node_at g w A i k b j r.rule r.after r.before n.x' n.y' r.symbol hx hy)
              (ap (λ (l : List ℕ). (event_rule_count g + b) ∷ j ∷ l) (sym (append_assoc first second rest)));
        }

    pub parts_last : (room' : List ℕ) → PartsLast g w p i j k r.x r.y room room' → LastBy g w A i k b j q
    parts_last room' l = record { below = r.below; x = r.x; y = r.y; left = rw is.left at l.left; right = rw is.right at l.right; tree = r.tree }

  -- a plan is written over derivation number q
  pub plan_begins : (q : ℕ) (rest room : List ℕ) (p : Plan) (room' : List ℕ) → Begins g w A i k q rest room → q + 1 < count g w A i k → Planned g w A i k (q + 1) p
      → room' ≡ script (plan_tree g w i k p) ++ drop (script_word_count (k - i)) room → Begins g w A i k (q + 1) rest room'
  plan_begins q rest room p room' a l n e = record {
    below = l;
    text = e ∙ rw (← n.root, a.text, drop_at _ rest (script_word_count (k - i)) (script_words_is g w A i k q a.below));
  }

-- ---- a step by rule b and split j, which the first two words of the room tell
pub only_one : (g : Grammar) (w : List ℕ) (A i k x : ℕ) (room : List ℕ) → x ≡ held (count g w A i k) → x ≡ 1 → Stepped g w A i k room false room
only_one g w A i k x room e h = record { from = λ q rest a. (omega (arith, a.below), refl) }

pub second_event : (g : Grammar) (o : Sound g) (w : List ℕ) (A i k x : ℕ) (room : List ℕ) → x ≡ held (count g w A i k) → (x ≡ 1 → ⊥) → Begun g w A i k room → k ≢ i + 1
second_event g o w A i k x room e h a = more_events g w A i k o (omega (arith, a.is.below))

pub begun_room : (g : Grammar) (w : List ℕ) (A i k : ℕ) (room : List ℕ) → Begun g w A i k room → script_word_count (k - i) ≤ length room
begun_room g w A i k room a = omega (arith, ap length a.is.text, length-append (script (get_or (derivations g w A i k) a.q none)) a.rest, script_words_is g w A i k a.q a.is.below)

pub begun_length : (g : Grammar) (w : List ℕ) (A i k : ℕ) (room : List ℕ) → i < k → Begun g w A i k room → 2 ≤ length room
begun_length g w A i k room h a = omega (arith, begun_room g w A i k room a)

-- the word of the table is the count
pub counted : (g : Grammar) (w t : List ℕ) (A i k : ℕ) → CountsIn g w t → Sound g → i < k → k ≤ length w → {room : List ℕ} → Begun g w A i k room
    → (N : ℕ) → N ≡ g.symbols → (x : ℕ) → x ≡ get_or t (slot_of N A i k) 0 → x ≡ held (count g w A i k)
counted g w t A i k c o h l a N en x e = rw en at e ∙ c.at A i k (symbol_known g w A i k o a.q a.is.below) h l

pub first_word : (r j : ℕ) (rest room : List ℕ) → room ≡ r ∷ j ∷ rest → get_or room 0 0 ≡ r
first_word r j rest room e = rw e

module _ (g : Grammar) (w : List ℕ) (A i k : ℕ) (n : k ≢ i + 1) (room : List ℕ) (L : ℕ) (el : L ≡ event_rule_count g) where
  abbrev b : ℕ
  b = get_or room 0 0 - L

  abbrev j : ℕ
  j = get_or room 1 0

  module _ (q : ℕ) (rest : List ℕ) (a : Begins g w A i k q rest room) where
    pub root : Rooted g w A i k b j q rest room
    root = rw el (rooted g w A i k q rest room a n)

    module _ (p : Pair) (is : PairIs g b p) where
      pub some_parted : SomeParted g w p i j k room
      some_parted = record { r = event_rule_count g + b; s = j; x = root.x; y = root.y; rest = rest; is = root_parted g w A i k b j q rest room root p is }

      module _ (m : Bool) (room₁ : List ℕ) (step : PartsStepped g w p i j k room m room₁) where
        stepped : PartsTo g w p i j k (event_rule_count g + b) j root.x root.y rest room m room₁
        stepped = step.from _ _ _ _ rest (root_parted g w A i k b j q rest room root p is)

        pub parts_stepped : m ≡ true → Begins g w A i k (q + 1) rest room₁
        parts_stepped e = parts_next g w A i k b j q rest room root p is room₁ (rw e at stepped)

        module _ (e : m ≡ false) where
          over : PartsLast g w p i j k root.x root.y room room₁
          over = rw e at stepped

          pub parts_kept : room₁ ≡ room
          parts_kept = over.kept

          last : LastBy g w A i k b j q
          last = parts_last g w A i k b j q rest room root p is room₁ over

          -- what stands behind them
          pub no_more : NextIs g w A i k b j None → (q + 1 ≡ count g w A i k) × (room₁ ≡ room)
          no_more follows = (follows.behind q last, over.kept)

          module _ (plan : Plan) (follows : NextIs g w A i k b j (Some plan)) where
            pub plan_ok : PlanOk g w i k plan
            plan_ok = (follows.behind q last).1.parts

            pub plan_written : (room₂ : List ℕ) → room₂ ≡ script (plan_tree g w i k plan) ++ drop (script_word_count (k - i)) room₁ → Begins g w A i k (q + 1) rest room₂
            plan_written room₂ h =
                let y = follows.behind q last in
                plan_begins g w A i k q rest room plan room₂ a y.0 y.1 (rw over.kept at h)
