-- The group's unions tell that none of its rules matches or that all do; otherwise they are applied one by one.
use mathlib.Core.Path.{◌≡◌, refl, sym, ◌∙◌}
use Prim.Native.Nat.{◌^◌, ◌<◌}
use Rattle.std.proofs.Common.{rules}
use Rattle.bits.specs.Word.{meet}
use Rattle.image.specs.Shown.{shown}
use Rattle.image.proofs.Outcomes.{taken}
use Rattle.groups.proofs.Places.{ends_of}
use Rattle.kernel.specs.Apply.{over}
use Rattle.kernel.proofs.Pairs.{over_is}
use Rattle.kernel.proofs.Unions.{applied_none, applied_all}
use native.Mathlib.Omega.{arith}
use Rattle.kernel.proofs.fire_group.Goals as goal

pub returns-then-met-eq0 : goal.returns-then-met-eq0
returns-then-met-eq0 c = applied_none (shown c.args.grammar) _ c.requires.grouped c.args.right c.args.a c.requires.a_bound.0 c.if-met-eq0.true _

pub overflow_add-result : goal.overflow_add-result
overflow_add-result c =
    let e = ends_of _ _ _ c.requires.grouped (taken c.args.grammar.accepted).sound.range.pairs c.requires.a_bound.0 in
    omega (arith, e.few)

pub returns-then-met-head : goal.returns-then-met-head
returns-then-met-head c = applied_all (shown c.args.grammar) _ c.requires.grouped c.args.right c.args.a c.requires.a_bound.0
    c.if-met-head.true _ _ refl refl

pub apply_rules-requires-clause-callable : goal.apply_rules-requires-clause-callable
apply_rules-requires-clause-callable c = λ s l. (tt, λ y e. let q : y < 2 = search rules in omega (arith, q))

pub returns : goal.returns
returns c = c.apply_rules.ensures (over c.args.right) (λ s y l e. let q : y ≡ meet c.args.right (2 ^ s) = search rules in q ∙ sym (over_is _ _))
