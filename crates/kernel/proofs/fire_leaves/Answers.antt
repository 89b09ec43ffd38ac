-- Each rule makes the event at most once, and there are no more than 512 of them.
use mathlib.Core.Path.{◌≡◌, refl}
use Rattle.derivation.specs.Grammar.{event_rule_count}
use Rattle.image.specs.Shown.{shown}
use Rattle.image.proofs.Outcomes.{taken}
use Rattle.kernel.proofs.Leaves.{run_start, run_le, run_step, run_done}
use native.Mathlib.Omega.{arith}
use Rattle.kernel.proofs.fire_leaves.Goals as goal

pub loop-r-init : goal.loop-r-init
loop-r-init c = (omega arith, omega (arith, (taken c.args.grammar.accepted).sound.range.leaves), run_start _ _ _ refl refl)

pub note-f-requires : goal.note-f-requires
note-f-requires c = omega (arith, run_le _ _ _ _ c.loop-r.invariant.2)

pub loop-r-preserved : goal.loop-r-preserved
loop-r-preserved c = (
  omega arith,
  omega arith,
  run_step _ _ _ _ c.loop-r.r _ _ c.loop-r.invariant.2 c.leaf_symbol.ensures c.meets.ensures.0 c.note-f.ensures,
)

pub returns : goal.returns
returns c = let e : c.loop-r.r ≡ event_rule_count (shown c.args.grammar) = omega arith in
    (run_done _ _ _ (rw e at c.loop-r.invariant.2), omega (arith, run_le _ _ _ _ c.loop-r.invariant.2))
