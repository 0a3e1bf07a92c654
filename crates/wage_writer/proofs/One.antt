-- Any two answers that the contract of a public call allows are equal, and so is what they leave in lent memory. Assumes nothing.
use Rattle.refusal.proofs.Basics.{sym, ◌∙◌}
use Rattle.refusal.specs.One.{One}
use Rattle.wage_writer.proofs as here

pub write_label_one : One _ here.write_label.Kinds.ps here.write_label.Kinds.r here.write_label.Reads.Post
write_label_one κs a z z' w w' p q = (p.answers ∙ sym q.answers, p.leaves ∙ sym q.leaves)

pub write_order_one : One _ here.write_order.Kinds.ps here.write_order.Kinds.r here.write_order.Reads.Post
write_order_one κs a z z' w w' p q = (p.answers ∙ sym q.answers, p.leaves ∙ sym q.leaves)
