-- `judge::type_step` meets its contract: 10, 12 and 13 first, then the arm says the answer of the places. Assumes nothing.
use Rattle.refusal.proofs.Basics.{arith}
use Rattle.condition.proofs.Laws.{sound_within}
use Rattle.judge.specs.Judge.{type_step}
use Rattle.judge.proofs.type_step.Goals as goal

pub overflow_add-next : goal.overflow_add-next
overflow_add-next c = omega (arith, (sound_within c.args.j c.requires).lines)

pub returns-in-Err : goal.returns-in-Err
unfolding type_step
returns-in-Err c = rw (c.refused.ensures, c.told.ensures, c.of_line.ensures, ← c.judge_standing.ensures, c.in-Err.is)

pub returns-in-Ok : goal.returns-in-Ok
unfolding type_step
returns-in-Ok c = rw (← c.judge_standing.ensures, c.in_default.is, ← c.judge_places.ensures, c.in-Ok.is) (rw c.requires at c.after.ensures)

pub returns-in-Err-judge_places : goal.returns-in-Err-judge_places
unfolding type_step
returns-in-Err-judge_places c = rw (← c.judge_standing.ensures, c.in_default.is, ← c.judge_places.ensures, c.in-Err-judge_places.is, c.refused-in-Err-judge_places.ensures, c.in_line.ensures)
