-- Any two answers that the contract of a public call allows are equal, and so is what they leave in lent memory. Assumes nothing.
use Rattle.refusal.proofs.Basics.{sym, ◌∙◌}
use Rattle.refusal.specs.One.{One}
use Rattle.part_contents.proofs as here

pub contents_at_one : One _ here.contents_at.Kinds.ps here.contents_at.Kinds.r here.contents_at.Reads.Post
contents_at_one κs a z z' w w' p q = p ∙ sym q
