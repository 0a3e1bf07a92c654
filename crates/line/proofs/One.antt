-- Any two answers that the contract of a public call allows are equal, and so is what they leave in lent memory. Assumes nothing.
use Rattle.refusal.proofs.Basics.{sym, ◌∙◌}
use Rattle.refusal.specs.One.{One}
use Rattle.line.proofs as here

pub fresh_one : One _ here.fresh.Kinds.ps here.fresh.Kinds.r here.fresh.Reads.Post
fresh_one κs a z z' w w' p q = p ∙ sym q

pub fed_one : One _ here.fed.Kinds.ps here.fed.Kinds.r here.fed.Reads.Post
fed_one κs a z z' w w' p q = ((p.0 ∙ sym q.0, p.1.0 ∙ sym q.1.0), p.1.1 ∙ sym q.1.1)
