-- A size is written, and the loop ends with the room or the last field. Assumes nothing.
use Rattle.refusal.proofs.Basics.{arith, drop}
use Rattle.text.specs.Split.{split}
use Rattle.question.specs.Question.{lengths_of}
use Rattle.question.proofs.Laws.{written_full, size_more, size_last}
use Rattle.question.proofs.put_sizes.Goals as goal

pub returns-then-s-at : goal.returns-then-s-at
returns-then-s-at c =
    size_last c.args.s.now c.loop-size.at _ c.find-n.ensures c.loop-size.out _ c.loop-size.size-index c.loop-size.invariant.1 c.if-s-at.true

pub loop-size-preserved : goal.loop-size-preserved
loop-size-preserved c = (
  omega arith,
  size_more c.args.s.now c.loop-size.at _ c.find-n.ensures c.loop-size.out _ c.loop-size.size-index c.loop-size.invariant.1 (omega arith),
)

pub returns : goal.returns
returns c =
    written_full c.loop-size.out _ c.loop-size.size-index (lengths_of (split 124 (drop c.loop-size.at c.args.s.now))) (omega arith) c.loop-size.invariant.1
