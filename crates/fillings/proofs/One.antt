-- Any two answers that the contract of a public call allows are equal, and so is what they leave in lent memory. Assumes nothing.
use Rattle.refusal.proofs.Basics.{sym, ◌∙◌}
use Rattle.refusal.specs.One.{One}
use Rattle.fillings.proofs as here

pub list_into_one : One _ here.list_into.Kinds.ps here.list_into.Kinds.r here.list_into.Reads.Post
list_into_one κs a z z' w w' p q = (p.0 ∙ sym q.0, rw (p.1, q.1, p.0, q.0))
