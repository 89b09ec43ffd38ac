-- Inside: the grammar that an accepted image shows.
-- Assumes nothing.
use Rattle.derivation.specs.Grammar.{Grammar}
use Rattle.layout.specs.Layout.{decode}
use Rattle.image.specs.declared.accepted.Grammar as image

abbrev pub shown : image.Grammar → Grammar
shown g = decode g.bytes.now
