-- Any two answers that the contract of a public call allows are equal, and so is what they leave in lent memory. Assumes nothing.
use Rattle.refusal.proofs.Basics.{sym, ◌∙◌}
use Rattle.refusal.specs.One.{One}
use Rattle.desk_writers.proofs as here

pub write_label_one : One _ here.lanecockle_write_label.Kinds.ps here.lanecockle_write_label.Kinds.r here.lanecockle_write_label.Reads.Post
write_label_one κs a z z' w w' p q = (p.answers ∙ sym q.answers, p.leaves ∙ sym q.leaves)

pub write_order_one : One _ here.lanecockle_write_order.Kinds.ps here.lanecockle_write_order.Kinds.r here.lanecockle_write_order.Reads.Post
write_order_one κs a z z' w w' p q = (p.answers ∙ sym q.answers, p.leaves ∙ sym q.leaves)

pub write_group_one : One _ here.lanecockle_write_group.Kinds.ps here.lanecockle_write_group.Kinds.r here.lanecockle_write_group.Reads.Post
write_group_one κs a z z' w w' p q = (p.answers ∙ sym q.answers, p.leaves ∙ sym q.leaves)

pub write_closing_one : One _ here.lanecockle_write_closing.Kinds.ps here.lanecockle_write_closing.Kinds.r here.lanecockle_write_closing.Reads.Post
write_closing_one κs a z z' w w' p q = (p.answers ∙ sym q.answers, p.leaves ∙ sym q.leaves)
