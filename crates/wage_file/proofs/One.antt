-- Any two answers that the contract of a public call allows are equal, and so is what they leave in lent memory. Assumes nothing.
use Rattle.refusal.proofs.Basics.{sym, ◌∙◌}
use Rattle.refusal.specs.One.{One}
use Rattle.wage_file.proofs as here

pub lines_one : One _ here.lines.Kinds.ps here.lines.Kinds.r here.lines.Reads.Post
lines_one κs a z z' w w' p q = p ∙ sym q

pub whole_one : One _ here.whole.Kinds.ps here.whole.Kinds.r here.whole.Reads.Post
whole_one κs a z z' w w' p q = p ∙ sym q
