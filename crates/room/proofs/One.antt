-- Any two answers that the contract of a public call allows are equal, and so is what they leave in lent memory. Assumes nothing.
use Rattle.refusal.proofs.Basics.{refl, sym, ◌∙◌}
use Rattle.refusal.specs.One.{One}
use Rattle.room.proofs as here

pub put_one : One _ here.put.Kinds.ps here.put.Kinds.r here.put.Reads.Post
put_one κs a z z' w w' p q = (refl, p ∙ sym q)

pub put_digits_one : One _ here.put_digits.Kinds.ps here.put_digits.Kinds.r here.put_digits.Reads.Post
put_digits_one κs a z z' w w' p q = (refl, p ∙ sym q)
