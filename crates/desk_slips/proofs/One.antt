-- Any two answers that the contract of a public call allows are equal, and so is what they leave in lent memory. Assumes nothing.
use Rattle.refusal.proofs.Basics.{sym, ◌∙◌}
use Rattle.refusal.specs.One.{One}
use Rattle.desk_slips.proofs as here

pub slip_read_one : One _ here.lanecockle_slip_read.Kinds.ps here.lanecockle_slip_read.Kinds.r here.lanecockle_slip_read.Reads.Post
slip_read_one κs a z z' w w' p q = p ∙ sym q

pub slip_field_one : One _ here.lanecockle_slip_field.Kinds.ps here.lanecockle_slip_field.Kinds.r here.lanecockle_slip_field.Reads.Post
slip_field_one κs a z z' w w' p q = p ∙ sym q

pub slip_cents_one : One _ here.lanecockle_slip_cents.Kinds.ps here.lanecockle_slip_cents.Kinds.r here.lanecockle_slip_cents.Reads.Post
slip_cents_one κs a z z' w w' p q = p ∙ sym q

pub slip_write_one : One _ here.lanecockle_slip_write.Kinds.ps here.lanecockle_slip_write.Kinds.r here.lanecockle_slip_write.Reads.Post
slip_write_one κs a z z' w w' p q = (p.answers ∙ sym q.answers, p.leaves ∙ sym q.leaves)
