-- `condition::end` meets its contract: a sound record has fewer lines than a count can hold. Assumes nothing.
use Rattle.refusal.proofs.Basics.{sym, ◌∙◌, arith}
use Rattle.condition.proofs.Laws.{sound_within}
use Rattle.condition.proofs.end.Goals as goal

pub overflow_add-j : goal.overflow_add-j
overflow_add-j c = omega (arith, (sound_within c.args.j (sym c.is_sound.ensures ∙ c.if-is_sound.true)).lines)
