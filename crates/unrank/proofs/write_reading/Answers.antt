-- An empty record's script has no words, so the room is as it was; of the others reading k is derivation k of the start symbol.
use Rattle.std.proofs.Common.{ℕ, ◌++◌, ◌∙◌, ◌<◌, sym, ap, ap₂, length, drop, arith}
use Rattle.std.proofs.Math.Nat.{sub-zero}
use Rattle.derivation.specs.Tree.{script_word_count}
use Rattle.derivation.proofs.Readings.{count_events, reading_at, spelling_quiet}
use Rattle.image.specs.Shown.{shown}
use Rattle.unrank.proofs.write_reading.Goals as goal

pub returns-else-n-ne0 : goal.returns-else-n-ne0
returns-else-n-ne0 c =
    let z = c.if-n-ne0.false in
    sym (ap₂ ◌++◌ (spelling_quiet _ _ z _ c.requires.k_lt_limit.1) (ap (λ (n : ℕ). drop (script_word_count n) c.args.room.now) z))

pub write_script-requires-clause-rank_lt_limit : goal.write_script-requires-clause-rank_lt_limit
write_script-requires-clause-rank_lt_limit c =
    let some : 0 < length c.args.counts.events.now = omega (arith, c.if-n-ne0.true) in
    (c.requires.k_lt_limit.0, rw (count_events (shown c.args.counts.grammar) c.args.counts.events.now some) at c.requires.k_lt_limit.1)

pub returns-then-n-ne0 : goal.returns-then-n-ne0
returns-then-n-ne0 c =
    let some : 0 < length c.args.counts.events.now = omega (arith, c.if-n-ne0.true) in
    c.write_script.ensures
    ∙ ap₂ ◌++◌ (sym (reading_at _ _ some _ c.requires.k_lt_limit.1)) (ap (λ (n : ℕ). drop (script_word_count n) c.args.room.now) (sub-zero (length c.args.counts.events.now)))
