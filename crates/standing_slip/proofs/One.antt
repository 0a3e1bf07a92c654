-- Any two answers that the contract of a public call allows are equal, and so is what they leave in lent memory. Assumes nothing.
use Rattle.refusal.proofs.Basics.{sym, ◌∙◌}
use Rattle.refusal.specs.One.{One}
use Rattle.standing_slip.proofs as here

pub write_one : One _ here.write.Kinds.ps here.write.Kinds.r here.write.Reads.Post
write_one κs a z z' w w' p q = (p.answers ∙ sym q.answers, rw (p.leaves, q.leaves, p.answers, q.answers))
