-- The loop of `slip_given::judge_given`: what is left, after the field before it, answers for all. Assumes nothing.
use Rattle.refusal.proofs.Basics.{◌≡◌, ◌+◌, []}
use Rattle.std.specs.Prelude.{drop}
use Rattle.slip_given.specs.Given.{given_answer, texts}
use Rattle.slip_given.proofs.judge_given.Given as goal

abbrev pub invariant-loop-i : goal.invariant-loop-i
invariant-loop-i l = given_answer (l.i + 4) l.before (texts (drop l.i l.fields)) ≡ given_answer 4 [] (texts l.fields)
