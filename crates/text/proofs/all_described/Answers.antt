-- `text::all_described` meets its contract. The loop's invariant: the answer is the test so far and that of what is left from the byte on.
-- Assumes nothing.
use Rattle.refusal.proofs.Basics.{sym, ◌∙◌, arith}
use Rattle.classes.specs.declared.Class.TheVariants.{Description}
use Rattle.text.proofs.Laws.{tested_on, tested_all}
use Rattle.text.proofs.all_described.Goals as goal

pub loop-b-preserved : goal.loop-b-preserved
loop-b-preserved c = let l = c.loop-b in
    l.invariant ∙ tested_on Description c.args.s.now l.b-index (omega arith) l.right _ c.described-right.ensures

pub returns : goal.returns
returns c = let l = c.loop-b in
    tested_all Description c.args.s.now l.b-index (omega arith) (omega arith) l.right ∙ sym l.invariant
