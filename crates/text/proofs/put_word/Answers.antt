-- A 16-bit number is below 10 to the power of 5, so its text has at most 5 digits.
-- Assumes nothing.
use Rattle.std.proofs.Common.{arith}
use lib.Dec.{lit<}
use Rattle.text.specs.Text.{text}
use Rattle.text.proofs.Short.{text_short, place_behind}
use Rattle.text.proofs.put_word.Goals as goal

pub returns-clause-upper_bound : goal.returns-clause-upper_bound
returns-clause-upper_bound c =
    let a = c.args in
    let p = c.put_number in
    let e = place_behind a.out.now p.new.out (text c.from.result) a.at p.result (omega arith) (omega arith) p.ensures.put.written in
    omega (arith, e, text_short 5 c.from.result (lit< tt) (omega arith))
