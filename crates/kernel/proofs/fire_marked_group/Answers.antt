-- The group's first union tells that none of its rules matches; otherwise they are applied one by one.
use Rattle.groups.proofs.Read.{parts_small}
use mathlib.Core.Path.{◌≡◌, refl}
use Prim.Native.Nat.{ℕ, ◌^◌, ◌<◌}
use Rattle.std.proofs.Common.{rules}
use Rattle.image.proofs.Outcomes.{taken}
use Rattle.kernel.specs.Apply.{along}
use Rattle.kernel.proofs.Along.{group_unmet}
use Rattle.kernel.proofs.fire_marked_group.Goals as goal

pub returns-then-right-grouped-eq0 : goal.returns-then-right-grouped-eq0
returns-then-right-grouped-eq0 c = group_unmet _ _ c.requires.grouped (parts_small _ (taken c.args.grammar.accepted).sound) _ _ _ _ _ c.requires.r_bound.4 c.requires.a_bound.0 c.if-right-grouped-eq0.true _

pub apply_rules-requires-clause-callable : goal.apply_rules-requires-clause-callable
apply_rules-requires-clause-callable c = λ s l. (let o : (x : ℕ) × (x < 64) × (2 ^ s ≡ 2 ^ x) = (s, l, refl) in search rules, λ y e. search rules)

pub returns : goal.returns
returns c = c.apply_rules.ensures (along c.args.marks.now c.args.r c.args.a c.args.column.now) (λ s y l e. search rules)
