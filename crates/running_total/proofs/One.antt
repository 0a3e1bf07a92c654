-- Any two answers that the contract of a public call allows are equal, and so is what they leave in lent memory. Assumes nothing.
use Rattle.refusal.proofs.Basics.{sym, ◌∙◌}
use Rattle.refusal.specs.One.{One}
use Rattle.running_total.proofs as here

pub step_one : One _ here.step.Kinds.ps here.step.Kinds.r here.step.Reads.Post
step_one κs a z z' w w' p q = p ∙ sym q
