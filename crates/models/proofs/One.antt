-- Any two answers that the contract of a public call allows are equal, and so is what they leave in lent memory. Assumes nothing.
use Rattle.refusal.proofs.Basics.{sym, ◌∙◌}
use Rattle.refusal.specs.One.{One}
use Rattle.models.proofs as here

pub rules_one : One _ here.rules.Kinds.ps here.rules.Kinds.r here.rules.Reads.Post
rules_one κs a z z' w w' p q = p ∙ sym q
