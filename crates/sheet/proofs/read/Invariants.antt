-- `sheet::read` meets its contract. The loop's invariant: what reading the sheet finds is what the lines from `at` on add. Assumes nothing.
use Rattle.refusal.proofs.Basics.{◌-◌, length}
use Rattle.sheet.proofs.Laws.{Reached}
use Rattle.sheet.proofs.read.Given as goal

abbrev pub invariant-loop-i : goal.invariant-loop-i
invariant-loop-i l = Reached l.s l.line l.last l.at l.starts l.lengths

abbrev pub decreases-loop-i : goal.decreases-loop-i
decreases-loop-i l = length l.s - l.at
