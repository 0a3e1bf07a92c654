-- Any two answers that the contract of a public call allows are equal, and so is what they leave in lent memory. Assumes nothing.
use Rattle.refusal.proofs.Basics.{refl, sym, ◌∙◌}
use Rattle.refusal.specs.One.{One}
use Rattle.bare_line.proofs as here

pub dress_one : One _ here.dress.Kinds.ps here.dress.Kinds.r here.dress.Reads.Post
dress_one κs a z z' w w' p q = (refl, p ∙ sym q)
