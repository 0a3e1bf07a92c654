-- Any two answers that the contract of a public call allows are equal, and so is what they leave in lent memory. Assumes nothing.
use Rattle.refusal.proofs.Basics.{sym, ◌∙◌}
use Rattle.refusal.specs.One.{One}
use Rattle.groups.proofs as here

pub obeys_at_one : One _ here.obeys_at.Kinds.ps here.obeys_at.Kinds.r here.obeys_at.Reads.Post
obeys_at_one κs a z z' w w' p q = p ∙ sym q

pub groups_at_one : One _ here.groups_at.Kinds.ps here.groups_at.Kinds.r here.groups_at.Reads.Post
groups_at_one κs a z z' w w' p q = p ∙ sym q
