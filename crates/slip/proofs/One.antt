-- Any two answers that the contract of a public call allows are equal, and so is what they leave in lent memory. Assumes nothing.
use Rattle.refusal.proofs.Basics.{sym, ◌∙◌}
use Rattle.refusal.specs.One.{One}
use Rattle.slip.proofs as here

pub read_in_one : One _ here.read_in.Kinds.ps here.read_in.Kinds.r here.read_in.Reads.Post
read_in_one κs a z z' w w' p q = p ∙ sym q

pub read_one : One _ here.read.Kinds.ps here.read.Kinds.r here.read.Reads.Post
read_one κs a z z' w w' p q = p ∙ sym q
