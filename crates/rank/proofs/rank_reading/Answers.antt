-- The reading of an empty record is its only one; of the others a reading is a derivation of the start symbol.
use Rattle.std.proofs.Common.{◌≡◌, ◌<◌, length, rules}
use Rattle.derivation.proofs.Readings.{of_reading}
use Rattle.image.proofs.Outcomes.{taken}
use Rattle.rank.proofs.Ranks.{reading_ranked, quiet_ranked}
use Rattle.rank.proofs.rank_reading.Goals as goal

pub returns-then-is_empty : goal.returns-then-is_empty
returns-then-is_empty c =
    let none : length c.args.counts.events.now ≡ 0 = search rules in
    quiet_ranked _ (taken c.args.counts.grammar.accepted).sound _ none _ c.requires.reading

pub rank_script-requires-clause-spells : goal.rank_script-requires-clause-spells
rank_script-requires-clause-spells c =
    let some : 0 < length c.args.counts.events.now = search rules in
    of_reading _ _ some _ c.requires.reading

pub returns-else-is_empty : goal.returns-else-is_empty
returns-else-is_empty c =
    let some : 0 < length c.args.counts.events.now = search rules in
    reading_ranked _ (taken c.args.counts.grammar.accepted).sound _ some _ _ c.rank_script.ensures
