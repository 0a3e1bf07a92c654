-- What is no bar is a field's.
use Rattle.refusal.proofs.Basics.{arith}
use Rattle.question.proofs.Laws.{joined_counted, count_within}
use Rattle.question.proofs.size_of.Goals as goal

pub overflow_sub-result : goal.overflow_sub-result
overflow_sub-result c = omega (arith, c.count.ensures, count_within 124 c.args.s.now)

pub returns : goal.returns
returns c = omega (arith, c.count.ensures, joined_counted c.args.s.now)
