-- A bar is passed, another byte written, and the loop ends with the room or the text. Assumes nothing.
use Rattle.refusal.proofs.Basics.{arith, drop}
use Rattle.text.specs.Split.{split, joined}
use Rattle.question.proofs.Laws.{written_full, joined_bar, byte_more, byte_last}
use Rattle.question.proofs.put_fields.Goals.{then-b-ne124+else-out-at, else-b-ne124}
use Rattle.question.proofs.put_fields.Goals as goal

pub returns-then-out-at : goal.returns-then-out-at
returns-then-out-at c =
    written_full c.loop-b.out _ c.loop-b.at (joined (split 124 (drop c.loop-b.b-index c.args.s.now))) (omega arith) c.loop-b.invariant.1

pub loop-b-preserved : goal.loop-b-preserved
loop-b-preserved c =
    let l = c.loop-b in
    elim c.if-b-ne124.branch [
      | then-b-ne124+else-out-at w ↦ rw (w.out-is, w.at-is) (omega arith, byte_more c.args.s.now l.b-index l.out _ l.at (omega arith) w.if-b-ne124.true l.invariant.1)
      | else-b-ne124 w ↦ rw (w.out-is, w.at-is) (omega arith, rw (joined_bar c.args.s.now l.b-index (omega arith) w.if-b-ne124.false) at l.invariant.1)
    ]

pub returns : goal.returns
returns c = byte_last c.args.s.now c.loop-b.b-index c.loop-b.out _ c.loop-b.at (omega arith) c.loop-b.invariant.1
