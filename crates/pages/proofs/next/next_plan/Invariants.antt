-- The invariant: nothing stands between what was asked for and the rule and split that are looked at next.
use Rattle.image.specs.Shown.{shown}
use Rattle.pages.proofs.Following.{Walked}
use Rattle.pages.proofs.next.next_plan.Given as goal

abbrev pub invariant-loop-c : goal.invariant-loop-c
invariant-loop-c l = Walked (shown l.counts.grammar) l.counts.events.now l.symbol l.i l.k l.b l.j l.c l.from
