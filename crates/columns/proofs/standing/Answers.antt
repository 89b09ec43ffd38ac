-- What is or-ed together has the bits of each word.
use Rattle.std.proofs.Common.{rules, ◌≡◌, bit_or}
use Rattle.std.specs.List.{fold}
use Rattle.columns.proofs.Pushes.{standing_all}
use Rattle.columns.proofs.standing.Goals as goal

pub returns : goal.returns
returns c =
    let z : c.fold.result ≡ fold bit_or 0 c.args.words.now = search rules in
    rw z (standing_all c.args.words.now)
