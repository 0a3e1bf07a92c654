-- `text::all_within` meets its contract. The loop's invariant: for a class that permits just the bytes between the two, the answer is the
-- test so far and that of what is left from the byte on. Assumes nothing.
use Rattle.refusal.proofs.Basics.{sym, ◌∙◌, arith, get_or, lt-leb, le-leb}
use Rattle.text.proofs.Laws.{all_empty, first_wrong_lem, tested_on, tested_all}
use Rattle.text.proofs.all_within.Goals as goal

pub returns-then-s-eq0 : goal.returns-then-s-eq0
returns-then-s-eq0 c = λ k e. all_empty k _ c.if-s-eq0.true

pub returns-then-s-least : goal.returns-then-s-least
returns-then-s-least c = let s = c.args.s.now in
    λ k e. first_wrong_lem k s c.if-s-eq0.false (e (get_or s 0 0) ∙ rw (lt-leb _ _ c.if-s-least.true))

pub returns-then-most-s : goal.returns-then-most-s
returns-then-most-s c = let s = c.args.s.now in
    λ k e. first_wrong_lem k s c.if-s-eq0.false (e (get_or s 0 0) ∙ rw (le-leb _ _ c.if-s-least.false, lt-leb _ _ c.if-most-s.true))

pub loop-b-preserved : goal.loop-b-preserved
loop-b-preserved c = let s = c.args.s.now in
    let l = c.loop-b in
    λ k e. l.invariant k e ∙ tested_on k s l.b-index (omega arith) l.right _ (sym (e (get_or s l.b-index 0)))

pub returns : goal.returns
returns c = let l = c.loop-b in
    λ k e. tested_all k c.args.s.now l.b-index (omega arith) (omega arith) l.right ∙ sym (l.invariant k e)
