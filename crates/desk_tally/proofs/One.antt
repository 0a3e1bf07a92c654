-- Any two answers that the contract of a public call allows are equal, and so is what they leave in the lent tally. Assumes nothing.
use Rattle.refusal.proofs.Basics.{sym, ◌∙◌}
use Rattle.refusal.specs.One.{One}
use Rattle.desk_tally.proofs as here

pub judge_step_tally_one : One _ here.Contract.ps here.Contract.r here.Contract.Post
judge_step_tally_one κs a z z' w w' p q = (p.0 ∙ sym q.0, p.1 ∙ sym q.1)

pub lent_one : One _ here.lent.Kinds.ps here.lent.Kinds.r here.lent.Reads.Post
lent_one κs a z z' w w' p q = p ∙ sym q
