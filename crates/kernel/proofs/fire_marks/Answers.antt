-- A rule matches at most 128 times, and there are no more than 256 of them; where block and column have nothing in common, none matches.
use mathlib.Core.Path.{◌≡◌, refl}
use Prim.Native.Nat.{ℕ, ◌+◌, ◌≤◌}
use Rattle.std.specs.Prelude.{List}
use Rattle.derivation.specs.Grammar.{Grammar}
use Rattle.derivation.specs.Sound.{Sound}
use Rattle.groups.proofs.Read.{parts_small}
use Rattle.image.proofs.Outcomes.{taken}
use Rattle.kernel.specs.declared.Fired.{Fired}
use Rattle.kernel.specs.Apply.{along}
use Rattle.kernel.proofs.Visits.{Visit, visit_start, visit_step, visit_few}
use Rattle.kernel.proofs.Along.{along_le, none_met, met_all}
use native.Mathlib.Omega.{arith}
use Rattle.kernel.proofs.fire_marks.Goals as goal

few : (g : Grammar) → Sound g → (t : List ℕ) (r : ℕ) (u : List ℕ) (w : ℕ) (was f : Fired) (rest : ℕ)
    → Visit g w (λ (a : ℕ). along t r a u) was f rest → f.count ≤ was.count + 32768
few g sound t r u w was f rest v =
    let fits = parts_small g sound in
    omega (arith, visit_few g _ _ (λ b l. (fits b l).0) was f rest 128 (along_le g _ _ _ fits) v, sound.range.pairs)

pub returns-then-apart : goal.returns-then-apart
returns-then-apart c = (none_met _ _ _ _ (parts_small _ (taken c.args.grammar.accepted).sound) (c.apart.ensures c.if-apart.true) _ refl refl, omega arith)

pub loop-a-init : goal.loop-a-init
loop-a-init c = let e : c.into_iter-a-iterator.result ≡ c.seen-left.result = omega arith in rw e (visit_start _ _ _ _)

pub fire_marked_group-f-requires-clause-a_bound : goal.fire_marked_group-f-requires-clause-a_bound
fire_marked_group-f-requires-clause-a_bound c = (c.in-Some.ensures.steps.0, omega (arith, few _ (taken c.args.grammar.accepted).sound _ _ _ _ _ _ _ c.loop-a.invariant))

pub loop-a-preserved : goal.loop-a-preserved
loop-a-preserved c = visit_step _ _ _ _ _ _ _ _ _ c.in-Some.ensures.steps.0 c.in-Some.ensures.steps.2 c.loop-a.invariant
    c.fire_marked_group-f.ensures

pub returns : goal.returns
returns c = (met_all _ _ _ _ (parts_small _ (taken c.args.grammar.accepted).sound) _ c.seen-left.ensures _ _ _ refl refl c.in-None.ensures.steps.0 c.loop-a.invariant, omega (arith, few _ (taken c.args.grammar.accepted).sound _ _ _ _ _ _ _ c.loop-a.invariant))
