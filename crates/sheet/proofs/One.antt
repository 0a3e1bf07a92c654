-- Any two answers that the contract of a public call allows are equal, and so is what they leave in lent memory. Assumes nothing.
use Rattle.refusal.proofs.Basics.{sym, ◌∙◌}
use Rattle.refusal.specs.One.{One}
use Rattle.sheet.proofs as here

pub is_standing_one : One _ here.is_standing.Kinds.ps here.is_standing.Kinds.r here.is_standing.Reads.Post
is_standing_one κs a z z' w w' p q = p ∙ sym q

pub read_one : One _ here.read.Kinds.ps here.read.Kinds.r here.read.Reads.Post
read_one κs a z z' w w' p q = p ∙ sym q

pub find_one : One _ here.find.Kinds.ps here.find.Kinds.r here.find.Reads.Post
find_one κs a z z' w w' p q = p ∙ sym q
