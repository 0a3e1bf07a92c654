-- Any two answers that the contract of a public call allows are equal, and so is what they leave in lent memory. Assumes nothing.
use Rattle.refusal.proofs.Basics.{sym, ◌∙◌}
use Rattle.refusal.specs.One.{One}
use Rattle.codes.proofs as here

pub place_one : One _ here.place.Kinds.ps here.place.Kinds.r here.place.Reads.Post
place_one κs a z z' w w' p q = p ∙ sym q

pub is_code_one : One _ here.is_code.Kinds.ps here.is_code.Kinds.r here.is_code.Reads.Post
is_code_one κs a z z' w w' p q = p ∙ sym q
