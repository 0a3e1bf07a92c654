-- No bar left, a bar passed or another byte, and the end of the text. Assumes nothing.
use Rattle.refusal.proofs.Basics.{sym, ◌∙◌, arith}
use Rattle.question.proofs.Laws.{behind_here, behind_bar, behind_other, behind_end}
use Rattle.question.proofs.behind.Goals.{then-b-eq124, else-b-eq124}
use Rattle.question.proofs.behind.Goals as goal

pub returns-then-left-eq0 : goal.returns-then-left-eq0
returns-then-left-eq0 c =
    behind_here c.args.s.now c.loop-i.left c.loop-i.i (omega arith) ∙ sym c.loop-i.invariant

pub loop-i-preserved : goal.loop-i-preserved
loop-i-preserved c =
    let l = c.loop-i in
    l.invariant
    ∙ elim c.if-b-eq124.branch [
      | then-b-eq124 w ↦ rw w.left-is (behind_bar c.args.s.now l.left l.i (omega arith) c.if-left-eq0.false w.if-b-eq124.true)
      | else-b-eq124 w ↦ rw w.left-is (behind_other c.args.s.now l.left l.i (omega arith) c.if-left-eq0.false w.if-b-eq124.false)
    ]

pub returns : goal.returns
returns c = behind_end c.args.s.now c.loop-i.left c.loop-i.i (omega arith) ∙ sym c.loop-i.invariant
