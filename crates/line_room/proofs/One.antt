-- Any two answers that the contract of a public call allows are equal, and so is what they leave in lent memory. Assumes nothing.
use Rattle.refusal.proofs.Basics.{sym, ◌∙◌}
use Rattle.refusal.specs.One.{One}
use Rattle.line_room.proofs as here

pub put_line_one : One _ here.put_line.Kinds.ps here.put_line.Kinds.r here.put_line.Reads.Post
put_line_one κs a z z' w w' p q = (p.answers ∙ sym q.answers, p.leaves ∙ sym q.leaves)

pub is_kind_one : One _ here.is_kind.Kinds.ps here.is_kind.Kinds.r here.is_kind.Reads.Post
is_kind_one κs a z z' w w' p q = p ∙ sym q

pub write_closing_one : One _ here.write_closing.Kinds.ps here.write_closing.Kinds.r here.write_closing.Reads.Post
write_closing_one κs a z z' w w' p q = (p.answers ∙ sym q.answers, p.leaves ∙ sym q.leaves)
