-- Nothing refuses, so that the words are a judgement's; and the bytes show them.
use mathlib.Core.Path.{refl}
use native.Mathlib.Omega.{arith}
use Rattle.packed.proofs.Puts.{put_front}
use Rattle.lent.proofs.Over.{answered_over}
use Rattle.lent.proofs.charts.judge_in.Goals as goal

pub returns : goal.returns
returns c =
    let put = put_front 8 _ _ _ _ _ c.cell_count-need.ensures (omega arith) c.write.ensures in
    record {
      refusal = refl;
      rule = refl;
      answered = answered_over _ _ _ _ _ _ _ c.requires.1 (c.judge_accepted-judged.ensures.answered refl) put;
      framed = put.frame;
    }
