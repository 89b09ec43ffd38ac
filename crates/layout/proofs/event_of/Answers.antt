-- The word behind the symbol is the decoded rule's event.
use Prim.Native.Nat.{ℕ, ◌+◌}
use mathlib.Core.Path.{◌∙◌, ap}
use Rattle.layout.specs.Layout.{word_in}
use Rattle.layout.proofs.Decoded.{event_at}
use Rattle.layout.proofs.event_of.Goals as goal

pub returns : goal.returns
returns c = (
  c.word_at.ensures.0
      ∙ ap (λ (x : ℕ). word_in c.args.image.now (x + 1)) c.rule_at.ensures.0
      ∙ event_at _ _ c.requires.below,
  c.word_at.ensures.1,
)
