-- The next script is the last one, copied and stepped.
use Rattle.std.proofs.Common.{◌<◌, refl, length, arith}
use Rattle.std.proofs.Math.Nat.{zero-add}
use Rattle.pages.proofs.Laid.{no_events_is, no_scripts, laid_first, laid_fits, laid_done, copied_begins, laid_step}
use Rattle.pages.proofs.write_page.Goals as goal
use Rattle.pages.proofs.write_page.Goals.{then-n-eq0-via-then-n-eq0, then-n-eq0-via-else-n-eq0+then-count-eq0}

pub returns-then-n-eq0 : goal.returns-then-n-eq0
returns-then-n-eq0 c =
    elim c.then-n-eq0.branch [
      | then-n-eq0-via-then-n-eq0 w ↦ no_events_is _ _ _ _ c.requires.count_bound.1 _ w.if-n-eq0.true
      | then-n-eq0-via-else-n-eq0+then-count-eq0 w ↦ no_scripts _ _ _ _ c.requires.count_bound.1 _ w.if-count-eq0.true
    ]

pub loop-init : goal.loop-init
loop-init c = (omega arith, rw (zero-add, c.script_words-words.ensures) (laid_first _ _ _ _ c.requires.count_bound.1 (omega (arith, c.if-count-eq0.false)) _ _ c.write_reading.ensures c.requires.events_len_bound.1))

pub copy_within-requires-clause-in_bounds : goal.copy_within-requires-clause-in_bounds
copy_within-requires-clause-in_bounds c =
    let e = c.script_words-words.ensures in
    omega (arith, laid_fits _ _ _ _ c.requires.count_bound.1 (omega (arith, c.if-count-eq0.false)) _ _ c.write_reading.ensures c.requires.events_len_bound.1 _ _ _ (rw e at c.loop.invariant.1) c.loop-test.true, e)

pub copy_within-requires-clause-dest_in_bounds : goal.copy_within-requires-clause-dest_in_bounds
copy_within-requires-clause-dest_in_bounds c =
    let e = c.script_words-words.ensures in
    omega (arith, laid_fits _ _ _ _ c.requires.count_bound.1 (omega (arith, c.if-count-eq0.false)) _ _ c.write_reading.ensures c.requires.events_len_bound.1 _ _ _ (rw e at c.loop.invariant.1) c.loop-test.true, e)

pub step_script-requires-clause-begun : goal.step_script-requires-clause-begun
step_script-requires-clause-begun c =
    let e = c.script_words-words.ensures in
    let events : 0 < length c.args.counts.events.now = omega (arith, c.if-n-eq0.false) in
    rw e (record { q = _; rest = _; is = copied_begins _ _ _ _ c.requires.count_bound.1 (omega (arith, c.if-count-eq0.false)) _ _ c.write_reading.ensures c.requires.events_len_bound.1 _ _ _ (rw e at c.loop.invariant.1) _ refl c.loop.invariant.0 c.loop-test.true _ (rw e at c.copy_within.ensures.after) events })

pub loop-preserved : goal.loop-preserved
loop-preserved c =
    let e = c.script_words-words.ensures in
    let events : 0 < length c.args.counts.events.now = omega (arith, c.if-n-eq0.false) in
    (omega arith, rw e (laid_step _ _ _ _ c.requires.count_bound.1 (omega (arith, c.if-count-eq0.false)) _ _ c.write_reading.ensures c.requires.events_len_bound.1 _ _ _ (rw e at c.loop.invariant.1) _ refl c.loop.invariant.0 c.loop-test.true _ (rw e at c.copy_within.ensures.after) events _ _ (rw e at c.step_script.ensures)))

pub returns : goal.returns
returns c =
    let e = c.script_words-words.ensures in
    laid_done _ _ _ _ c.requires.count_bound.1 (omega (arith, c.if-count-eq0.false)) _ _ c.write_reading.ensures c.requires.events_len_bound.1 _ _ _ (rw e at c.loop.invariant.1) c.loop-test.false
