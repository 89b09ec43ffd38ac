-- Of no events the number of readings is the flag, which is 0 or 1; of some it is the count in the word for them all.
use mathlib.Core.Bool.{Bool, true, false}
use mathlib.Core.Path.{◌≡◌, ap, ◌∙◌}
use Prim.Native.Nat.{ℕ, ◌≤◌, ◌<◌}
use native.Mathlib.Omega.{arith}
use lib.ListN.{length, get_or}
use mir.Val.{bool_byte}
use Rattle.std.proofs.Common.{rules}
use Rattle.bits.specs.Truth.{Decides}
use Rattle.derivation.proofs.Readings.{count_quiet}
use Rattle.image.specs.Shown.{shown}
use Rattle.image.proofs.Outcomes.{taken}
use Rattle.table.specs.Table.{slot_of}
use Rattle.table.proofs.Tables.{total_is}
use Rattle.table.proofs.total_in.Goals as goal

flag_is : (quiet : Bool) (flag : ℕ) → flag ≤ 1 → Decides quiet (flag ≡ 1) → bool_byte quiet ≡ flag
flag_is true flag l d = omega (arith, d)
flag_is false flag l d = omega (arith, d)

pub returns-then-is_empty : goal.returns-then-is_empty
returns-then-is_empty c =
    let o = (taken c.args.counts.grammar.accepted).sound.range in
    let none : length c.args.counts.events.now ≡ 0 = search rules in
    omega (arith, c.from.ensures, flag_is c.is_quiet.result _ o.quiet c.is_quiet.ensures, count_quiet (shown c.args.counts.grammar) c.args.counts.events.now none o.quiet)

pub returns-else-is_empty : goal.returns-else-is_empty
returns-else-is_empty c =
    let n = length c.args.counts.events.now in
    let some : 0 < n = search rules in
    c.word_of.ensures ∙ ap (λ (x : ℕ). get_or c.args.counts.table.now (slot_of x 0 0 n) 0) c.symbol_count.ensures.0
    ∙ total_is _ _ _ c.args.counts.counts (taken c.args.counts.grammar.accepted).sound.range.some some
