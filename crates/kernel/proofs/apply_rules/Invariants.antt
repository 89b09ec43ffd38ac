-- The invariant: the first rules of the group are walked, with at most 128 matches each.
use Prim.Native.Nat.{ℕ, ◌+◌, ◌*◌, ◌≤◌}
use Rattle.groups.specs.Group.{group_from}
use Rattle.kernel.specs.Apply.{Tells}
use Rattle.kernel.proofs.Applies.{Walk}
use Rattle.kernel.proofs.apply_rules.Given as goal

abbrev pub invariant-loop-rule : goal.invariant-loop-rule
invariant-loop-rule g l =
    (l.f.count ≤ l.initial.f.count + l.rule-index * 128)
    × ((m : ℕ → ℕ) → Tells (λ (x : ℕ). goal.F-post g l.matches x) m → Walk m (group_from l.grouped l.a) l.grouped l.initial.f l.f l.rule-index)
