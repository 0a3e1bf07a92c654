-- `slip_given::judge_one` meets its contract: a 3 keeps its byte. Assumes nothing.
use Rattle.refusal.proofs.Basics.{◌∙◌}
use Rattle.slip_given.proofs.Laws.{one_given}
use Rattle.slip_given.proofs.judge_one.Goals as goal

pub returns : goal.returns
returns c = one_given _ _ _ _ (c.told_in.ensures ∙ rw c.judge_field.ensures)
