-- Any two answers that the contract of a public call allows are equal, and so is what they leave in lent memory. Assumes nothing.
use Rattle.refusal.proofs.Basics.{sym, ◌∙◌}
use Rattle.refusal.specs.One.{One}
use Rattle.wage_printed.proofs as here

pub day_one : One _ here.day.Kinds.ps here.day.Kinds.r here.day.Reads.Post
day_one κs a z z' w w' p q = p ∙ sym q

pub print_one : One _ here.print.Kinds.ps here.print.Kinds.r here.print.Reads.Post
print_one κs a z z' w w' p q = (p.answers ∙ sym q.answers, p.leaves ∙ sym q.leaves)
