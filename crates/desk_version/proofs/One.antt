-- Any two answers that the contract of a public call allows are equal, and so is what they leave in lent memory. Assumes nothing.
use Rattle.refusal.proofs.Basics.{sym, ◌∙◌}
use Rattle.refusal.specs.One.{One}
use Rattle.desk_version.proofs as here

pub version_one : One _ here.lanecockle_version.Kinds.ps here.lanecockle_version.Kinds.r here.lanecockle_version.Reads.Post
version_one κs a z z' w w' p q = p ∙ sym q
