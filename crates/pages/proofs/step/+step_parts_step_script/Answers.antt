-- The right part is stepped, or the left part with the right one begun anew, each over a shorter stretch; where neither has a next one, the next
-- rule and split are.
use Rattle.std.proofs.Common.{◌≡◌, ◌≢◌, ◌+◌, ◌<◌, ◌≤◌, ℕ, List, length, get_or, arith}
use Rattle.std.proofs.Math.Nat.{le_trans}
use Rattle.derivation.specs.Grammar.{Grammar}
use Rattle.derivation.specs.Sound.{Sound}
use Rattle.image.proofs.Outcomes.{taken}
use Rattle.table.specs.Table.{slot_of}
use Rattle.table.specs.Fill.{CountsIn}
use Rattle.table.proofs.Slots.{words_on}
use Rattle.unrank.proofs.Room.{tail_length}
use Rattle.pages.specs.Step.{Begun}
use Rattle.pages.proofs.Stepping.{parted_length, right_begins, left_begins, right_next, right_kept, left_stepped, parts_anew, parts_over}
use Rattle.pages.proofs.Rooted.{symbol_known, counted, only_one, second_event, begun_length, begun_room, first_word, root, some_parted, parts_stepped, parts_kept, no_more, plan_ok, plan_written}
use Rattle.pages.proofs.step.+step_parts_step_script.Goals as goal

-- ---- the two parts
pub step_parts-slice_bounds-step_script-count : goal.step_parts-slice_bounds-step_script-count
step_parts-slice_bounds-step_script-count t c = let o = c.requires.i_lt_j in omega (arith, parted_length _ _ _ _ _ _ o.0 o.1 _ _ _ _ _ _ c.requires.some_parted.is)

pub step_parts-slice_bounds-step_script-start : goal.step_parts-slice_bounds-step_script-start
step_parts-slice_bounds-step_script-start t c = let o = c.requires.i_lt_j in omega (arith, parted_length _ _ _ _ _ _ o.0 o.1 _ _ _ _ _ _ c.requires.some_parted.is)

pub step_parts-step_script-requires : goal.step_parts-step_script-requires
step_parts-step_script-requires t c =
    let o = c.requires.i_lt_j in (
      omega (arith, o.0, o.1),
      ((o.1, o.2, o.3), record { q = _; rest = _; is = right_begins _ _ _ _ _ _ o.0 o.1 _ _ _ _ _ _ c.requires.some_parted.is }),
    )

pub step_parts-returns-then-step_script : goal.step_parts-returns-then-step_script
step_parts-returns-then-step_script t c =
    let o = c.requires.i_lt_j in
    record { from = λ r s x y rest a. right_next _ _ _ _ _ _ o.0 o.1 _ _ _ _ _ _ a _ _ c.step_script.ensures c.if-step_script.true }

pub step_parts-step_script-requires-2 : goal.step_parts-step_script-requires-2
step_parts-step_script-requires-2 t c =
    let o = c.requires.i_lt_j in
    let a = right_kept _ _ _ _ _ _ o.0 o.1 _ _ _ _ _ _ c.requires.some_parted.is _ _ c.step_script.ensures c.if-step_script.false in (
      omega (arith, o.0, o.1),
      ((o.0, omega (arith, o.1, o.2), omega (arith, o.1, o.3)), record { q = _; rest = _; is = left_begins _ _ _ _ _ _ o.0 o.1 _ _ _ _ _ _ a }),
    )

pub step_parts-slice_bounds-write_script-count : goal.step_parts-slice_bounds-write_script-count
step_parts-slice_bounds-write_script-count t c =
    let o = c.requires.i_lt_j in
    let n = left_stepped _ _ _ _ _ _ o.0 o.1 _ _ _ _ _ _ c.requires.some_parted.is _ _ c.step_script.ensures c.if-step_script.false _ _ c.step_script-2.ensures c.if-step_script-2.true in
    omega (arith, parted_length _ _ _ _ _ _ o.0 o.1 _ _ _ _ _ _ n)

pub step_parts-slice_bounds-write_script-start : goal.step_parts-slice_bounds-write_script-start
step_parts-slice_bounds-write_script-start t c =
    let o = c.requires.i_lt_j in
    let n = left_stepped _ _ _ _ _ _ o.0 o.1 _ _ _ _ _ _ c.requires.some_parted.is _ _ c.step_script.ensures c.if-step_script.false _ _ c.step_script-2.ensures c.if-step_script-2.true in
    omega (arith, parted_length _ _ _ _ _ _ o.0 o.1 _ _ _ _ _ _ n)

pub step_parts-write_script-requires-clause-i_lt_k : goal.step_parts-write_script-requires-clause-i_lt_k
step_parts-write_script-requires-clause-i_lt_k t c =
    let o = c.requires.i_lt_j in
    let n = left_stepped _ _ _ _ _ _ o.0 o.1 _ _ _ _ _ _ c.requires.some_parted.is _ _ c.step_script.ensures c.if-step_script.false _ _ c.step_script-2.ensures c.if-step_script-2.true in
    let l = parted_length _ _ _ _ _ _ o.0 o.1 _ _ _ _ _ _ n in
    (o.1, o.2, o.3, rw tail_length (omega (arith, l)))

pub step_parts-returns-then-step_script-2 : goal.step_parts-returns-then-step_script-2
step_parts-returns-then-step_script-2 t c =
    let o = c.requires.i_lt_j in
    record {
      from = λ r s x y rest a. parts_anew _ _ _ _ _ _ o.0 o.1 _ _ _ _ _ _ a _ _ c.step_script.ensures c.if-step_script.false _ _ c.step_script-2.ensures c.if-step_script-2.true _ c.write_script.ensures;
    }

pub step_parts-returns : goal.step_parts-returns
step_parts-returns t c =
    let o = c.requires.i_lt_j in
    record { from = λ r s x y rest a. parts_over _ _ _ _ _ _ o.0 o.1 _ _ _ _ _ _ a _ _ c.step_script.ensures c.if-step_script.false _ _ c.step_script-2.ensures c.if-step_script-2.false }

-- ---- the whole
-- a word of the table that is not 1 tells of a second derivation, so the stretch has a second event
second_event_of : (g : Grammar) (w t : List ℕ) (A i k : ℕ) (room : List ℕ) → CountsIn g w t → Sound g → i < k → k ≤ length w → Begun g w A i k room
    → (N x : ℕ) → N ≡ g.symbols → x ≡ get_or t (slot_of N A i k) 0 → x ≢ 1 → k ≢ i + 1
second_event_of g w t A i k room c o h l a N x en e n = second_event g o w A i k x room (counted g w t A i k c o h l a N en x e) n a

pub step_script-word_of-requires : goal.step_script-word_of-requires
step_script-word_of-requires t c =
    let o = c.requires.i_lt_k in
    let n = c.symbol_count-symbols.ensures.0 in
    let a = c.requires.begun in (
      rw n (taken c.args.counts.now.grammar.accepted).sound.range.symbols,
      rw n (symbol_known _ _ _ _ _ (taken c.args.counts.now.grammar.accepted).sound a.q a.is.below),
      o.0,
      o.2,
      rw n (le_trans (words_on _ _ _ o.1) c.args.counts.now.counts.fits),
    )

pub step_script-returns-then-word_of-eq1 : goal.step_script-returns-then-word_of-eq1
step_script-returns-then-word_of-eq1 t c =
    let o = c.requires.i_lt_k in
    only_one _ _ _ _ _ _ _ (counted _ _ _ _ _ _ c.args.counts.now.counts (taken c.args.counts.now.grammar.accepted).sound o.0 o.1 c.requires.begun _ c.symbol_count-symbols.ensures.0 _ c.word_of.ensures) c.if-word_of-eq1.true

pub step_script-bounds-room-0 : goal.step_script-bounds-room-0
step_script-bounds-room-0 t c = omega (arith, begun_length _ _ _ _ _ _ c.requires.i_lt_k.0 c.requires.begun)

pub step_script-overflow_sub-b : goal.step_script-overflow_sub-b
step_script-overflow_sub-b t c =
    let o = c.requires.i_lt_k in
    let second = second_event_of _ _ _ _ _ _ _ c.args.counts.now.counts (taken c.args.counts.now.grammar.accepted).sound o.0 o.1 c.requires.begun _ _ c.symbol_count-symbols.ensures.0 c.word_of.ensures c.if-word_of-eq1.false in
    let r = root _ _ _ _ _ second _ _ c.leaf_count-leaves.ensures.0 _ _ c.requires.begun.is in
    omega (arith, first_word _ _ _ _ r.text, c.leaf_count-leaves.ensures.0)

pub step_script-bounds-room-1 : goal.step_script-bounds-room-1
step_script-bounds-room-1 t c = omega (arith, begun_length _ _ _ _ _ _ c.requires.i_lt_k.0 c.requires.begun)

pub step_script-pair_of-p-requires : goal.step_script-pair_of-p-requires
step_script-pair_of-p-requires t c =
    let o = c.requires.i_lt_k in
    let second = second_event_of _ _ _ _ _ _ _ c.args.counts.now.counts (taken c.args.counts.now.grammar.accepted).sound o.0 o.1 c.requires.begun _ _ c.symbol_count-symbols.ensures.0 c.word_of.ensures c.if-word_of-eq1.false in
    let r = root _ _ _ _ _ second _ _ c.leaf_count-leaves.ensures.0 _ _ c.requires.begun.is in
    r.rule

pub step_script-step_parts-requires : goal.step_script-step_parts-requires
step_script-step_parts-requires t c =
    let o = c.requires.i_lt_k in
    let second = second_event_of _ _ _ _ _ _ _ c.args.counts.now.counts (taken c.args.counts.now.grammar.accepted).sound o.0 o.1 c.requires.begun _ _ c.symbol_count-symbols.ensures.0 c.word_of.ensures c.if-word_of-eq1.false in
    let r = root _ _ _ _ _ second _ _ c.leaf_count-leaves.ensures.0 _ _ c.requires.begun.is in (
      omega arith,
      ((r.after, r.before, o.1, o.2), some_parted _ _ _ _ _ second _ _ c.leaf_count-leaves.ensures.0 _ _ c.requires.begun.is _ c.pair_of-p.ensures),
    )

pub step_script-returns-then-step_parts : goal.step_script-returns-then-step_parts
step_script-returns-then-step_parts t c =
    let o = c.requires.i_lt_k in
    let second = second_event_of _ _ _ _ _ _ _ c.args.counts.now.counts (taken c.args.counts.now.grammar.accepted).sound o.0 o.1 c.requires.begun _ _ c.symbol_count-symbols.ensures.0 c.word_of.ensures c.if-word_of-eq1.false in
    record { from = λ q rest a. parts_stepped _ _ _ _ _ second _ _ c.leaf_count-leaves.ensures.0 q rest a _ c.pair_of-p.ensures _ _ c.step_parts.ensures c.if-step_parts.true }

pub step_script-next_plan-requires-clause-i_lt_j : goal.step_script-next_plan-requires-clause-i_lt_j
step_script-next_plan-requires-clause-i_lt_j t c =
    let o = c.requires.i_lt_k in
    let second = second_event_of _ _ _ _ _ _ _ c.args.counts.now.counts (taken c.args.counts.now.grammar.accepted).sound o.0 o.1 c.requires.begun _ _ c.symbol_count-symbols.ensures.0 c.word_of.ensures c.if-word_of-eq1.false in
    let r = root _ _ _ _ _ second _ _ c.leaf_count-leaves.ensures.0 _ _ c.requires.begun.is in
    (r.after, r.before, o.1, o.2)

pub step_script-next_plan-requires-clause-b_bound : goal.step_script-next_plan-requires-clause-b_bound
step_script-next_plan-requires-clause-b_bound t c =
    let o = c.requires.i_lt_k in
    let second = second_event_of _ _ _ _ _ _ _ c.args.counts.now.counts (taken c.args.counts.now.grammar.accepted).sound o.0 o.1 c.requires.begun _ _ c.symbol_count-symbols.ensures.0 c.word_of.ensures c.if-word_of-eq1.false in
    let r = root _ _ _ _ _ second _ _ c.leaf_count-leaves.ensures.0 _ _ c.requires.begun.is in
    (r.rule, r.symbol)

pub step_script-write_plan-requires-clause-k_in_bounds : goal.step_script-write_plan-requires-clause-k_in_bounds
step_script-write_plan-requires-clause-k_in_bounds t c =
    let o = c.requires.i_lt_k in
    let second = second_event_of _ _ _ _ _ _ _ c.args.counts.now.counts (taken c.args.counts.now.grammar.accepted).sound o.0 o.1 c.requires.begun _ _ c.symbol_count-symbols.ensures.0 c.word_of.ensures c.if-word_of-eq1.false in
    let k = parts_kept _ _ _ _ _ second _ _ c.leaf_count-leaves.ensures.0 _ _ c.requires.begun.is _ c.pair_of-p.ensures _ _ c.step_parts.ensures c.if-step_parts.false in
    (o.1, o.2, rw k (begun_room _ _ _ _ _ _ c.requires.begun))

pub step_script-write_plan-requires-clause-plan_ok : goal.step_script-write_plan-requires-clause-plan_ok
step_script-write_plan-requires-clause-plan_ok t c =
    let o = c.requires.i_lt_k in
    let second = second_event_of _ _ _ _ _ _ _ c.args.counts.now.counts (taken c.args.counts.now.grammar.accepted).sound o.0 o.1 c.requires.begun _ _ c.symbol_count-symbols.ensures.0 c.word_of.ensures c.if-word_of-eq1.false in
    plan_ok _ _ _ _ _ second _ _ c.leaf_count-leaves.ensures.0 _ _ c.requires.begun.is _ c.pair_of-p.ensures _ _ c.step_parts.ensures c.if-step_parts.false _ c.in-Some.ensures

pub step_script-returns-in-Some : goal.step_script-returns-in-Some
step_script-returns-in-Some t c =
    let o = c.requires.i_lt_k in
    let second = second_event_of _ _ _ _ _ _ _ c.args.counts.now.counts (taken c.args.counts.now.grammar.accepted).sound o.0 o.1 c.requires.begun _ _ c.symbol_count-symbols.ensures.0 c.word_of.ensures c.if-word_of-eq1.false in
    record {
      from = λ q rest a. plan_written _ _ _ _ _ second _ _ c.leaf_count-leaves.ensures.0 q rest a _ c.pair_of-p.ensures _ _ c.step_parts.ensures c.if-step_parts.false _ c.in-Some.ensures _ c.write_plan.ensures;
    }

pub step_script-returns-in-None : goal.step_script-returns-in-None
step_script-returns-in-None t c =
    let o = c.requires.i_lt_k in
    let second = second_event_of _ _ _ _ _ _ _ c.args.counts.now.counts (taken c.args.counts.now.grammar.accepted).sound o.0 o.1 c.requires.begun _ _ c.symbol_count-symbols.ensures.0 c.word_of.ensures c.if-word_of-eq1.false in
    record { from = λ q rest a. no_more _ _ _ _ _ second _ _ c.leaf_count-leaves.ensures.0 q rest a _ c.pair_of-p.ensures _ _ c.step_parts.ensures c.if-step_parts.false c.in-None.ensures }
