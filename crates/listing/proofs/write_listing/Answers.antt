-- A refusal is written where one applies, and else the listing of the words that the event file shows, by the image that passed.
use mathlib.Core.Path.{◌≡◌, refl}
use lib.ListN.{take}
use Rattle.std.proofs.Math.Seq.{take-append_seam}
use Rattle.text.specs.Text.{words}
use Rattle.text.proofs.Pairs.{length_words}
use Rattle.listing.proofs.write_listing.Goals as goal

pub returns-in-Ok : goal.returns-in-Ok
returns-in-Ok c =
    let t = c.in-Ok.ensures.tested in
    let p = rw c.in-Ok.ensures.bytes at c.write_readings.ensures.1 in
    let shown : take c.read_words-n.result c.read_words-n.new.out ≡ words c.args.events.now =
    rw (c.read_words-n.ensures.out_after, c.read_words-n.ensures.value, ← length_words c.args.events.now) (take-append_seam (words c.args.events.now) _) in (
      c.write_readings.ensures.0,
      record { refusal = 0; rule = 0; first = t.refusal; names = t.rule; refused = λ z. absurd (z refl); listed = λ _. rw shown at p.written },
      p.rest,
    )
