-- The invariant: the scripts so far stand at the front of the room, the last of them at `at`, and the rest is as it was.
use Rattle.std.proofs.Common.{◌+◌, ◌<◌}
use Rattle.image.specs.Shown.{shown}
use Rattle.pages.proofs.Laid.{Laid}
use Rattle.pages.proofs.write_page.Given as goal

abbrev pub invariant-loop : goal.invariant-loop
invariant-loop l = (0 < l.counter) × Laid (shown l.counts.grammar) l.counts.events.now l.k l.count l.initial.room l.counter (l.at + l.words) l.room
