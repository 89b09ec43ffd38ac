-- A plan's root, then the left part and the right part, each over a shorter stretch; the rest of the room comes back as it was.
use Rattle.std.proofs.Common.{arith}
use Rattle.unrank.proofs.Room.{end, leaf_end}
use Rattle.unrank.proofs.Plans.{leaf_some, leaf_chosen}
use Rattle.unrank.proofs.+write_plan_write_script.Goals as goal

pub write_plan-returns : goal.write_plan-returns
write_plan-returns t c = end _ _ _ _ _ c.requires.plan_ok c.args.room.now _ c.put_root.ensures _ c.write_script.ensures _ c.write_script-2.ensures

pub write_script-choose_leaf-rule-requires : goal.write_script-choose_leaf-rule-requires
write_script-choose_leaf-rule-requires t c =
    let p = c.requires.i_lt_k in
    leaf_some _ _ _ _ _ _ _ c.if-k-i.true c.from-event.ensures (omega (arith, p.0, p.1)) c.requires.rank_lt_limit.1

pub write_script-returns-then-k-i : goal.write_script-returns-then-k-i
write_script-returns-then-k-i t c =
    let p = c.requires.i_lt_k in
    leaf_end _ _ _ _ _ _ _ _ _ c.if-k-i.true c.put_root.ensures (leaf_chosen _ _ _ _ _ _ (omega (arith, p.0, p.1)) (rw c.from-event.ensures at c.choose_leaf-rule.ensures.0))
