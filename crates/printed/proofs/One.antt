-- Any two answers that the contract of a public call allows are equal, and so is what they leave in lent memory. Assumes nothing.
use Rattle.refusal.proofs.Basics.{sym, ◌∙◌}
use Rattle.refusal.specs.One.{One}
use Rattle.printed.proofs as here

pub put_one : One _ here.put.Kinds.ps here.put.Kinds.r here.put.Reads.Post
put_one κs a z z' w w' p q = (p.answers ∙ sym q.answers, p.leaves ∙ sym q.leaves)

pub put_number_one : One _ here.put_number.Kinds.ps here.put_number.Kinds.r here.put_number.Reads.Post
put_number_one κs a z z' w w' p q = (p.answers ∙ sym q.answers, p.leaves ∙ sym q.leaves)

pub put_counted_one : One _ here.put_counted.Kinds.ps here.put_counted.Kinds.r here.put_counted.Reads.Post
put_counted_one κs a z z' w w' p q = (p.answers ∙ sym q.answers, p.leaves ∙ sym q.leaves)

pub put_refused_one : One _ here.put_refused.Kinds.ps here.put_refused.Kinds.r here.put_refused.Reads.Post
put_refused_one κs a z z' w w' p q = (p.answers ∙ sym q.answers, p.leaves ∙ sym q.leaves)
