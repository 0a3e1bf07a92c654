-- What is left of the text makes up the whole. Assumes nothing.
use Rattle.refusal.proofs.Basics.{◌≡◌, drop, sets}
use Rattle.question.specs.Question.{lined}
use Rattle.question.proofs.put_lines.Given as goal

abbrev pub invariant-loop-i : goal.invariant-loop-i
invariant-loop-i l = sets l.out l.i (lined l.c (drop l.i l.s)) ≡ sets l.initial.out 0 (lined l.c l.s)
