-- Any two answers that the contract of a public call allows are equal, and so is what they leave in lent memory. Assumes nothing.
use Rattle.refusal.specs.One.{One}
use Rattle.units.proofs.Theorems.{nearest_alone}
use Rattle.units.proofs as here

pub in_cents_one : One _ here.in_cents.Kinds.ps here.in_cents.Kinds.r here.in_cents.Reads.Post
in_cents_one κs a z z' w w' p q = rw (nearest_alone _ z.number z'.number p q)
