-- A rule matches at most once, and there are no more than 256 of them; each symbol of the left word is ready, and the last visit leaves none.
use mathlib.Core.Path.{◌≡◌}
use native.Mathlib.Omega.{arith}
use Prim.Native.Nat.{ℕ, ◌<◌}
use Rattle.bits.proofs.Bits.{bit_lt}
use Rattle.derivation.specs.Grammar.{pair_rule_count, pair_rule}
use Rattle.image.specs.Shown.{shown}
use Rattle.image.proofs.Outcomes.{taken}
use Rattle.groups.proofs.Read.{parts_small}
use Rattle.kernel.proofs.Visits.{visit_start, visit_step, visit_few}
use Rattle.kernel.proofs.Pairs.{over_le, none_left, concluded_all}
use Rattle.kernel.proofs.fire_pairs.Goals as goal

pub returns-then-left-eq0 : goal.returns-then-left-eq0
returns-then-left-eq0 c = (none_left _ _ _ (omega arith) _, omega arith)

pub loop-a-init : goal.loop-a-init
loop-a-init c = let e : c.into_iter-a-iterator.result ≡ c.args.left = omega arith in rw e (visit_start _ _ _ _)

pub take_ready-f-requires-clause-ready_at : goal.take_ready-f-requires-clause-ready_at
take_ready-f-requires-clause-ready_at c =
    let a = c.in-Some.a in
    c.requires.ready.at a (omega (arith, c.in-Some.ensures.steps.1, c.loop-a.invariant.part a, bit_lt c.args.left a))

pub take_ready-f-requires-clause-a_bound : goal.take_ready-f-requires-clause-a_bound
take_ready-f-requires-clause-a_bound c =
    let n = visit_few _ _ _ (λ b l. (parts_small _ (taken c.args.grammar.accepted).sound b l).0) _ _ _ 1 (λ b l. over_le _ _) c.loop-a.invariant in
    (c.in-Some.ensures.steps.0, omega (arith, n, (taken c.args.grammar.accepted).sound.range.pairs))

pub loop-a-preserved : goal.loop-a-preserved
loop-a-preserved c = visit_step _ _ _ _ _ _ _ _ _ c.in-Some.ensures.steps.0 c.in-Some.ensures.steps.2 c.loop-a.invariant
    c.take_ready-f.ensures

pub returns : goal.returns
returns c = let g = shown c.args.grammar in
    let fits : (b : ℕ) → b < pair_rule_count g → (pair_rule g b).left < 64 = λ b l. (parts_small g (taken c.args.grammar.accepted).sound b l).0 in (
      concluded_all _ _ _ fits _ _ _ c.in-None.ensures.steps.0 c.loop-a.invariant,
      omega (arith, visit_few _ _ _ fits _ _ _ 1 (λ b l. over_le _ _) c.loop-a.invariant, (taken c.args.grammar.accepted).sound.range.pairs),
    )
