-- A rule of the group matches at most 128 times, as often as m tells of its right symbol; behind the last all the rules of the group are applied.
use mathlib.Core.Path.{◌≡◌, subst₂}
use Prim.Native.Nat.{ℕ}
use Rattle.std.proofs.Common.{rules, of_calls}
use Rattle.derivation.specs.Grammar.{pair_rule_count}
use Rattle.image.specs.Shown.{shown}
use Rattle.image.proofs.Outcomes.{taken}
use Rattle.groups.specs.Group.{lefts, group_from}
use Rattle.groups.proofs.Places.{ends_of}
use Rattle.kernel.proofs.Applies.{Walk, walk_start, walk_step, walk_done, one_symbol, called_at, told_at}
use native.Mathlib.Omega.{arith}
use Rattle.kernel.proofs.apply_rules.Goals as goal

pub rules_of-rule-items-requires : goal.rules_of-rule-items-requires
rules_of-rule-items-requires g c =
    let e = ends_of _ _ _ c.requires.grouped (taken c.args.grammar.accepted).sound.range.pairs c.requires.a_bound.0 in
    (c.requires.a_bound.0, omega (arith, e.from, e.to), e.few)

pub loop-rule-init : goal.loop-rule-init
loop-rule-init g c = (omega arith, λ m t. walk_start _ _ _ _)

pub matches-requires : goal.matches-requires
matches-requires g c =
    let o = one_symbol _ _ c.requires.grouped (taken c.args.grammar.accepted).sound c.args.a c.requires.a_bound.0 _ c.rules_of-rule-items.ensures c.loop-rule.rule-index c.loop-rule-test.true in
    let k = called_at (goal.F-pre g c.args.matches) (goal.F-post g c.args.matches) _ o c.requires.callable in
    let may = k.0 in
    search (rules, of_calls)

pub note-f-requires : goal.note-f-requires
note-f-requires g c =
    let e = ends_of _ _ _ c.requires.grouped (taken c.args.grammar.accepted).sound.range.pairs c.requires.a_bound.0 in
    let o = one_symbol _ _ c.requires.grouped (taken c.args.grammar.accepted).sound c.args.a c.requires.a_bound.0 _ c.rules_of-rule-items.ensures c.loop-rule.rule-index c.loop-rule-test.true in
    let k = called_at (goal.F-pre g c.args.matches) (goal.F-post g c.args.matches) _ o c.requires.callable in
    (omega (arith, e.few, c.rules_of-rule-items.ensures.long, c.loop-rule.invariant.0, c.requires.a_bound.1), k.1 _ c.matches.ensures)

pub loop-rule-preserved : goal.loop-rule-preserved
loop-rule-preserved g c =
    let o = one_symbol _ _ c.requires.grouped (taken c.args.grammar.accepted).sound c.args.a c.requires.a_bound.0 _ c.rules_of-rule-items.ensures c.loop-rule.rule-index c.loop-rule-test.true in
    let k = called_at (goal.F-pre g c.args.matches) (goal.F-post g c.args.matches) _ o c.requires.callable in (
      omega (arith, c.note-f.ensures.count, k.1 _ c.matches.ensures, c.loop-rule.invariant.0),
      λ m t. walk_step m (group_from c.args.grouped.now c.args.a) c.args.grouped.now _ _ _ _ _ _ (c.loop-rule.invariant.1 m t) (c.rules_of-rule-items.ensures.at c.loop-rule.rule-index c.loop-rule-test.true)
          (told_at (goal.F-post g c.args.matches) m _ _ o t c.matches.ensures) c.note-f.ensures,
    )

pub returns : goal.returns
returns g c =
    let e = ends_of _ _ _ c.requires.grouped (taken c.args.grammar.accepted).sound.range.pairs c.requires.a_bound.0 in
    let d : c.loop-rule.rule-index ≡ lefts (shown c.args.grammar) c.args.a (pair_rule_count (shown c.args.grammar)) = omega (arith, e.from, e.to, c.rules_of-rule-items.ensures.long) in
    λ m t. walk_done _ _ c.requires.grouped m c.args.a c.requires.a_bound.0 _ _
    (subst₂ (λ (o n : ℕ). Walk m o c.args.grouped.now c.args.into c.loop-rule.f n) e.from d (c.loop-rule.invariant.1 m t))
