-- Any two answers that the contract of a public call allows are equal, and so is what they leave in lent memory. Assumes nothing.
use Rattle.refusal.proofs.Basics.{sym, ◌∙◌}
use Rattle.refusal.specs.One.{One}
use Rattle.filling.proofs as here

pub filled_one : One _ here.filled.Kinds.ps here.filled.Kinds.r here.filled.Reads.Post
filled_one κs a z z' w w' p q = (p.0 ∙ sym q.0, rw (p.1, q.1, p.0, q.0))
