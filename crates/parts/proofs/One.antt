-- Any two answers that the contract of a public call allows are equal, and so is what they leave in lent memory. Assumes nothing.
use Rattle.refusal.proofs.Basics.{sym, ◌∙◌}
use Rattle.refusal.specs.One.{One}
use Rattle.parts.proofs as here

pub wide_one : One _ here.wide.Kinds.ps here.wide.Kinds.r here.wide.Reads.Post
wide_one κs a z z' w w' p q = p ∙ sym q

pub end_of_one : One _ here.end_of.Kinds.ps here.end_of.Kinds.r here.end_of.Reads.Post
end_of_one κs a z z' w w' p q = p ∙ sym q

pub parts_one : One _ here.parts.Kinds.ps here.parts.Kinds.r here.parts.Reads.Post
parts_one κs a z z' w w' p q = p ∙ sym q
