-- Any two answers that the contract of a public call allows are equal, and so is what they leave in lent memory. Assumes nothing.
use Rattle.refusal.proofs.Basics.{sym, ◌∙◌}
use Rattle.refusal.specs.One.{One}
use Rattle.group_writer.proofs as here

pub write_group_one : One _ here.write_group.Kinds.ps here.write_group.Kinds.r here.write_group.Reads.Post
write_group_one κs a z z' w w' p q = (p.answers ∙ sym q.answers, p.leaves ∙ sym q.leaves)
