-- `slip::judge_fields` meets its contract. The loop's invariant: the answer is that of the pieces from `at` on, from field `n` on, after
-- the field that stands from `before` to `end`. Assumes nothing.
use Rattle.refusal.proofs.Basics.{◌-◌, length}
use Rattle.slip.proofs.Laws.{Reached}
use Rattle.slip.proofs.judge_fields.Given as goal

abbrev pub invariant-loop-i : goal.invariant-loop-i
invariant-loop-i l = Reached l.currency l.s l.n l.before l.end l.at

abbrev pub decreases-loop-i : goal.decreases-loop-i
decreases-loop-i l = length l.s - l.at
