-- `wage_fields::judge_range` meets its contract. The loop's invariant: the answer is that of the places from `k` on. Assumes nothing.
use Rattle.refusal.proofs.Basics.{◌≡◌, ◌-◌}
use Rattle.wage_fields.proofs.Laws.{Rest}
use Rattle.wage_fields.proofs.judge_range.Given as goal

abbrev pub invariant-places : goal.invariant-places
invariant-places l = Rest l.day l.kind l.t l.s l.first l.last ≡ Rest l.day l.kind l.t l.s l.k l.last

abbrev pub decreases-places : goal.decreases-places
decreases-places l = l.last - l.k
