-- A 32-bit number is below 10 to the power of 10, so its fewest digits are at most 10, and they are its text.
-- Assumes nothing.
use Rattle.std.proofs.Common.{◌≤◌, arith}
use lib.Dec.{lit<}
use Rattle.text.proofs.Fewest.{fewest_text, fewest_short}
use Rattle.text.proofs.put_number.Goals as goal

pub returns-clause-upper_bound : goal.returns-clause-upper_bound
returns-clause-upper_bound c =
    let d = c.decimal-k in
    omega (arith, fewest_short 10 c.from.result d.result (lit< tt) (omega arith) d.ensures.len)

pub returns-clause-put : goal.returns-clause-put
returns-clause-put c =
    let d = c.decimal-k in
    let few : d.result ≤ 20 = omega (arith, fewest_short 10 c.from.result d.result (lit< tt) (omega arith) d.ensures.len) in
    let p = c.put_bytes.ensures.put in
    record { behind = p.behind; written = cc (fewest_text c.from.result d.result few d.ensures.len); rest = p.rest }
