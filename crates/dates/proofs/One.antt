-- Any two answers that the contract of a public call allows are equal, and so is what they leave in lent memory. Assumes nothing.
use Rattle.refusal.proofs.Basics.{sym, ◌∙◌}
use Rattle.refusal.specs.One.{One}
use Rattle.dates.proofs as here

pub is_date_one : One _ here.is_date.Kinds.ps here.is_date.Kinds.r here.is_date.Reads.Post
is_date_one κs a z z' w w' p q = p ∙ sym q
