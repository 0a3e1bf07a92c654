-- Any two answers that the contract of a public call allows are equal, and so is what they leave in lent memory. Assumes nothing.
use Rattle.refusal.proofs.Basics.{sym, ◌∙◌}
use Rattle.refusal.specs.One.{One}
use Rattle.desk_standing.proofs as here

pub standing_text_one : One _ here.lanecockle_standing_text.Kinds.ps here.lanecockle_standing_text.Kinds.r here.lanecockle_standing_text.Reads.Post
standing_text_one κs a z z' w w' p q = p ∙ sym q

pub slip_write_standing_one : One _ here.lanecockle_slip_write_standing.Kinds.ps here.lanecockle_slip_write_standing.Kinds.r here.lanecockle_slip_write_standing.Reads.Post
slip_write_standing_one κs a z z' w w' p q = (p.answers ∙ sym q.answers, p.leaves ∙ sym q.leaves)
