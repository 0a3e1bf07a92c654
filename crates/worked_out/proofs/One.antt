-- Any two answers that the contract of a public call allows are equal, and so is what they leave in lent memory. Assumes nothing.
use Rattle.refusal.proofs.Basics.{sym, ◌∙◌}
use Rattle.refusal.specs.One.{One}
use Rattle.worked_out.proofs as here

pub number_one : One _ here.number.Kinds.ps here.number.Kinds.r here.number.Reads.Post
number_one κs a z z' w w' p q = p ∙ sym q

pub total_one : One _ here.total.Kinds.ps here.total.Kinds.r here.total.Reads.Post
total_one κs a z z' w w' p q = p ∙ sym q
