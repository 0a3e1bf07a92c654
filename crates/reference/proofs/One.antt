-- Any two answers that the contract of a public call allows are equal, and so is what they leave in lent memory. Assumes nothing.
use Rattle.refusal.proofs.Basics.{sym, ◌∙◌}
use Rattle.refusal.specs.One.{One}
use Rattle.reference.proofs as here

pub obeys_one : One _ here.obeys.Kinds.ps here.obeys.Kinds.r here.obeys.Reads.Post
obeys_one κs a z z' w w' p q = p ∙ sym q

pub numbered_one : One _ here.numbered.Kinds.ps here.numbered.Kinds.r here.numbered.Reads.Post
numbered_one κs a z z' w w' p q = p ∙ sym q

pub reference_one : One _ here.reference.Kinds.ps here.reference.Kinds.r here.reference.Reads.Post
reference_one κs a z z' w w' p q = p ∙ sym q
