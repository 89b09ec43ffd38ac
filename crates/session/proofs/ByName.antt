-- A rule of an accepted image asks for symbols below N alone, and makes no others: what else stands in a session's words counts for nothing.
-- Assumes nothing.
use mathlib.Core.Path.{◌≡◌, sym, ap, ◌∙◌}
use mathlib.Core.List.{List}
use Prim.Native.Nat.{ℕ, ◌+◌, ◌≤◌, ◌<◌, zero-le}
use native.Mathlib.Omega.{arith}
use Rattle.bits.specs.Bit.{bit}
use Rattle.bits.proofs.Truths.{decides_only}
use Rattle.derivation.specs.Grammar.{Grammar}
use Rattle.derivation.specs.Sound.{Sound}
use Rattle.derivation.proofs.Columns.{before_mono}
use Rattle.layout.specs.Layout.{decode}
use Rattle.columns.specs.NewColumn.{rd, ColumnFilled}
use Rattle.columns.proofs.OneColumn.{symbols_decide, symbols_fire, no_other_symbol}
use Rattle.session.specs.declared.Session.{Session}
use Rattle.session.specs.Answer.{Added}
use Rattle.session.specs.Session.{AddAnswered, AddIs}
use Rattle.session.specs.Symbols.{SameSymbols, SameColumn}
use Rattle.session.proofs.Adds.{image_accepted}

module _ (g : Grammar) (ok : Sound g) (s t : Session) (e : ℕ) (a d : Added) (alike : SameSymbols g s t)
    (p : AddAnswered g s e a) (r : AddAnswered g t e d) where
  theirs : ColumnFilled g e t.chart d.session.chart s.count d.firings
  theirs = rw (sym alike.count) at r.column

  held : (i k A : ℕ) → i < k → k ≤ s.count → A < g.symbols → bit (rd a.session.chart i k) A ≡ bit (rd d.session.chart i k) A
  held i k A l h small =
      let m = before_mono k (s.count + 1) (omega arith) in
      ap (λ (x : ℕ). bit x A) (p.column.frame.before _ (omega (arith, m))) ∙ alike.held i k A l h small ∙ sym (ap (λ (x : ℕ). bit x A) (theirs.frame.before _ (omega (arith, m))))

  words : (i : ℕ) → i ≤ s.count → rd a.session.chart i (s.count + 1) ≡ rd d.session.chart i (s.count + 1)
  words = symbols_decide g ok e _ _ s.count p.column.column theirs.column held

  same_column : SameColumn g s.count a d
  same_column = record {
    words = words;
    clear = λ i A l high. no_other_symbol g ok e _ s.count A p.column.column high i l;
    admitted = decides_only _ a.admitted d.admitted p.admitted (rw (sym alike.count, sym (words 0 zero-le)) at r.admitted);
    firings = p.column.counted ∙ symbols_fire g ok e _ _ s.count p.column.column theirs.column held ∙ sym theirs.counted;
  }

pub by_name : (b : List ℕ) (s t : Session) (e : ℕ) (a d : Added) → SameSymbols (decode b) s t → AddIs b s e a → a.refusal ≡ 0 → AddIs b t e d → d.refusal ≡ 0
    → SameColumn (decode b) s.count a d
by_name b s t e a d alike p z r y = same_column (decode b) (image_accepted b s e a p z).sound s t e a d alike (p.answered z) (r.answered y)
