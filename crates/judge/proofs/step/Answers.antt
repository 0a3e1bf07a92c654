-- `judge::step` meets its contract: each return is the definition's choice on the tests that led there. Assumes nothing.
use Rattle.judge.specs.Judge.{stepped}
use Rattle.judge.proofs.step.Goals as goal

pub returns-then-is_refused : goal.returns-then-is_refused
unfolding stepped
returns-then-is_refused c = rw (← c.is_refused.ensures, c.if-is_refused.true)

pub returns-in-Ok : goal.returns-in-Ok
unfolding stepped
returns-in-Ok c = rw (← c.is_refused.ensures, c.if-is_refused.false, ← c.is_sound.ensures, c.if-is_sound-j.true, ← c.read_type.ensures, c.in-Ok.is) c.type_step.ensures

pub returns-in-Err : goal.returns-in-Err
unfolding stepped
returns-in-Err c = rw (← c.is_refused.ensures, c.if-is_refused.false, ← c.is_sound.ensures, c.if-is_sound-j.true, ← c.read_type.ensures, c.in-Err.is, c.refused.ensures, c.in_line.ensures)

pub returns-else-is_sound-j : goal.returns-else-is_sound-j
unfolding stepped
returns-else-is_sound-j c = rw (← c.is_refused.ensures, c.if-is_refused.false, ← c.is_sound.ensures, c.if-is_sound-j.false, c.refused-else-is_sound-j.ensures, c.of_line.ensures)
