-- Any two answers that the contract of a public call allows are equal, and so is what they leave in lent memory. Assumes nothing.
use Rattle.refusal.proofs.Basics.{sym, ◌∙◌}
use Rattle.refusal.specs.One.{One}
use Rattle.wet.proofs as here

pub list_iban_one : One _ here.list_iban.Kinds.ps here.list_iban.Kinds.r here.list_iban.Reads.Post
list_iban_one κs a z z' w w' p q = (p.0 ∙ sym q.0, rw (p.1, q.1, p.0, q.0))

pub list_reference_one : One _ here.list_reference.Kinds.ps here.list_reference.Kinds.r here.list_reference.Reads.Post
list_reference_one κs a z z' w w' p q = (p.0 ∙ sym q.0, rw (p.1, q.1, p.0, q.0))
