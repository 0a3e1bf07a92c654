-- Any two answers that the contract of a public call allows are equal, and so is what they leave in lent memory. Assumes nothing.
use Rattle.refusal.proofs.Basics.{sym, ◌∙◌}
use Rattle.refusal.specs.One.{One}
use Rattle.tally.proofs as here

pub zero_one : One _ here.zero.Kinds.ps here.zero.Kinds.r here.zero.Reads.Post
zero_one κs a z z' w w' p q = p ∙ sym q

pub is_within_one : One _ here.is_within.Kinds.ps here.is_within.Kinds.r here.is_within.Reads.Post
is_within_one κs a z z' w w' p q = p ∙ sym q

pub grow_one : One _ here.grow.Kinds.ps here.grow.Kinds.r here.grow.Reads.Post
grow_one κs a z z' w w' p q = p ∙ sym q
