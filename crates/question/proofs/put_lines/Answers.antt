-- Where the room ends before the text, nothing more is written. Assumes nothing.
use Rattle.refusal.proofs.Basics.{arith, drop}
use Rattle.question.specs.Question.{lined}
use Rattle.question.proofs.Laws.{written_full}
use Rattle.question.proofs.put_lines.Goals as goal

pub returns-then-out-i : goal.returns-then-out-i
returns-then-out-i c =
    written_full c.loop-i.out _ c.loop-i.i (lined c.args.c (drop c.loop-i.i c.args.s.now)) (omega arith) c.loop-i.invariant
