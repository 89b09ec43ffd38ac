-- The line begins with the first word, each turn writes a space and the next one, and the newline ends it; the room behind is never touched.
-- Assumes nothing.
use Rattle.std.proofs.Common.{◌∙◌, ◌∷◌, ◌+◌, arith, take, drop, get_or, append_assoc}
use native.Mathlib.Nat.{le_trans}
use Rattle.text.specs.Text.{text, more}
use Rattle.text.proofs.Puts.{rest_on}
use Rattle.text.proofs.Lines.{line_none, line_first, more_next, more_end}
use Rattle.text.proofs.put_line.Goals as goal

pub returns-in_default-clause-put : goal.returns-in_default-clause-put
returns-in_default-clause-put c =
    let p = c.put_byte.ensures.put in
    record { behind = p.behind; written = cc (line_none c.args.words.now c.in_default.ensures.cases); rest = p.rest }

pub loop-word-preserved : goal.loop-word-preserved
loop-word-preserved c =
    let l = c.loop-word in
    let s = c.put_spaced-end.ensures.put in
    let ws = c.in-Some.others.now in
    let i = l.word-index in
    let after = more (drop (i + 1) ws) in
    record {
      near = omega arith;
      written = cc (more_next ws i (omega arith), append_assoc (take l.end l.out) (32 ∷ text (get_or ws i 0)) after);
      behind = le_trans l.invariant.behind s.behind;
      rest = s.rest ∙ rest_on _ _ _ _ s.behind l.invariant.rest;
    }

pub returns-clause-put : goal.returns-clause-put
returns-clause-put c =
    let a = c.args in
    let ws = c.in-Some.others.now in
    let first = text c.in-Some.first.now in
    let p = c.put_byte-2.ensures.put in
    let w = c.put_word-end.ensures.put in
    let v = c.loop-word.invariant in
    let on = le_trans v.behind p.behind in
    record {
      behind = le_trans w.behind on;
      written = cc (more_end ws c.loop-word.word-index (omega arith), line_first a.words.now ws c.in-Some.first.now c.in-Some.ensures.cases.0, append_assoc (take a.at a.out.now) first (more ws));
      rest = p.rest ∙ rest_on _ _ _ _ p.behind v.rest ∙ rest_on _ _ _ _ on w.rest;
    }
