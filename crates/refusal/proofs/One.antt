-- Any two answers that the contract of a public call allows are equal, and so is what they leave in lent memory. Assumes nothing.
use Rattle.refusal.proofs.Basics.{sym, ◌∙◌}
use Rattle.refusal.specs.One.{One}
use Rattle.refusal.proofs as here

pub nowhere_one : One _ here.nowhere.Kinds.ps here.nowhere.Kinds.r here.nowhere.Reads.Post
nowhere_one κs a z z' w w' p q = p ∙ sym q

pub number_one : One _ here.number.Kinds.ps here.number.Kinds.r here.number.Reads.Post
number_one κs a z z' w w' p q = p ∙ sym q

pub told_one : One _ here.told.Kinds.ps here.told.Kinds.r here.told.Reads.Post
told_one κs a z z' w w' p q = p ∙ sym q

pub needed_one : One _ here.needed.Kinds.ps here.needed.Kinds.r here.needed.Reads.Post
needed_one κs a z z' w w' p q = p ∙ sym q

pub made_one : One _ here.made.Kinds.ps here.made.Kinds.r here.made.Reads.Post
made_one κs a z z' w w' p q = p ∙ sym q

pub put_one : One _ here.put.Kinds.ps here.put.Kinds.r here.put.Reads.Post
put_one κs a z z' w w' p q = p ∙ sym q

pub in_line_one : One _ here.in_line.Kinds.ps here.in_line.Kinds.r here.in_line.Reads.Post
in_line_one κs a z z' w w' p q = p ∙ sym q
