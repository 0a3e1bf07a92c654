-- `characters::judge`: the bytes before what is left are `n` permitted characters, and each turn leaves less. Assumes nothing.
use Rattle.refusal.proofs.Basics.{length}
use Rattle.characters.proofs.Laws.{Passed}
use Rattle.characters.proofs.judge.Given as goal

abbrev pub invariant-loop-rest : goal.invariant-loop-rest
invariant-loop-rest l = Passed l.s l.rest l.n

abbrev pub decreases-loop-rest : goal.decreases-loop-rest
decreases-loop-rest l = length l.rest
