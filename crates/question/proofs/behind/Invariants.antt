-- What stands behind the bars left, from `i` on, is what stands behind all. Assumes nothing.
use Rattle.refusal.proofs.Basics.{◌≡◌, drop}
use Rattle.question.specs.Question.{behind_bars}
use Rattle.question.proofs.behind.Given as goal

abbrev pub invariant-loop-i : goal.invariant-loop-i
invariant-loop-i l = behind_bars l.bars l.s ≡ behind_bars l.left (drop l.i l.s)
