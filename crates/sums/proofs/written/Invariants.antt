-- `sums::written` meets its contract. The loop's invariant: the sum is that of the digits up to here. Assumes nothing.
use Rattle.refusal.proofs.Basics.{◌≡◌, take}
use Rattle.sums.specs.Sums.{sum_of, number_of}
use Rattle.sums.proofs.written.Given as goal

abbrev pub invariant-loop-b : goal.invariant-loop-b
invariant-loop-b l = l.sum ≡ sum_of l.most (number_of (take l.b-index l.s))
