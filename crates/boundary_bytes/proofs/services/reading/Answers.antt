-- An early refusal leaves table and room as they were, 12 and 13 the room; else the script of the words' reading goes to the room.
use mathlib.Core.Path.{◌≡◌, refl, sym, ap, ◌∙◌}
use mathlib.Core.Logic.{◌≢◌}
use Prim.Native.Nat.{ℕ, ◌/◌, ◌≤◌}
use native.Mathlib.Omega.{arith}
use lib.ListN.{length}
use Rattle.std.specs.declared.result.Result.{Result}
use Rattle.std.specs.declared.result.Result.TheVariants.{Err}
use Rattle.derivation.specs.Tree.{script_word_count}
use Rattle.image.specs.Image.{most_event_bytes}
use Rattle.image.specs.declared.numbered.Refusal.{Refusal}
use Rattle.image.proofs.Outcomes.{passed_on, never_zero}
use Rattle.readings.specs.Answer.{paged}
use Rattle.packed.proofs.Puts.{put_front}
use Rattle.boundary_bytes.proofs.Passes.{lent_passes}
use Rattle.boundary_bytes.proofs.Answers.{early_refused, lends_script, reading_refused, reading_answers}
use Rattle.boundary_bytes.proofs.services.reading.Goals as goal

-- the words of the longest script are enough for any
enough : (size words : ℕ) → size ≤ most_event_bytes → words ≡ 382 → script_word_count (size / 2) ≤ words
enough size words h e = omega (arith, h, e)

abbrev refused : Result ℕ Refusal → ℕ
refused answer = (paged answer).refusal

pub returns-in_err-grammar : goal.returns-in_err-grammar
returns-in_err-grammar c =
    let p = c.in_err-grammar.ensures.tested in
    rw (passed_on _ _ c.from_residual.ensures.1)
    (early_refused c.args.image.now c.args.events.now c.args.table.now c.args.room.now c.args.k _ _ (never_zero c.in_err-grammar.field-0.0) p.refusal p.rule)

pub take-taken-requires : goal.take-taken-requires
take-taken-requires c =
    let f = c.in_ok-grammar.ensures.tested.refusal in
    let p = lent_passes c.args.image.now (length c.args.events.now) (length c.args.table.now) (length c.args.room.now) _ refl f in
    rw c.in_ok-grammar.ensures.bytes
    (lends_script c.args.image.now c.args.events.now c.args.table.now c.args.room.now _ c.read_2-n.ensures.out_after c.args.k _ refl f _ (enough (length c.args.events.now) _ p.count.events.few refl))

pub returns-in_err-taken : goal.returns-in_err-taken
returns-in_err-taken c =
    let f = c.in_ok-grammar.ensures.tested.refusal in
    let p = lent_passes c.args.image.now (length c.args.events.now) (length c.args.table.now) (length c.args.room.now) _ refl f in
    let e : c.take-taken.result.paged ≡ Err c.in_err-taken.field-0.0 = c.in_err-taken.was in
    let t = rw c.in_ok-grammar.ensures.bytes at c.take-taken.ensures in
    let some : (paged c.take-taken.result.paged).refusal ≢ 0 = λ z. never_zero c.in_err-taken.field-0.0 (sym (ap refused e) ∙ z) in
    rw (passed_on _ _ c.from_residual-in_err-taken.ensures.1)
    (rw e at (reading_refused c.args.image.now c.args.events.now c.args.table.now c.args.room.now _ c.read_2-n.ensures.out_after c.args.k _ refl f _ (enough (length c.args.events.now) _ p.count.events.few refl) _ _ _ t some))

pub returns : goal.returns
returns c =
    let f = c.in_ok-grammar.ensures.tested.refusal in
    let p = lent_passes c.args.image.now (length c.args.events.now) (length c.args.table.now) (length c.args.room.now) _ refl f in
    let t = rw c.in_ok-grammar.ensures.bytes at c.take-taken.ensures in
    reading_answers c.args.image.now c.args.events.now c.args.table.now c.args.room.now _ c.read_2-n.ensures.out_after c.args.k _ refl f _ (enough (length c.args.events.now) _ p.count.events.few refl) _ _ _ t
    (omega (arith, c.ranges.k)) (ap refused c.in_ok-taken.was) _ (put_front 2 _ _ _ _ _ (c.script_words-need.ensures ∙ ap script_word_count c.read_2-n.ensures.value) (omega arith) c.write.ensures)
