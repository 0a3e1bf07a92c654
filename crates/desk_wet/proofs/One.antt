-- Any two answers that the contract of a public call allows are equal, and so is what they leave in lent memory. Assumes nothing.
use Rattle.refusal.proofs.Basics.{sym, ◌∙◌}
use Rattle.refusal.specs.One.{One}
use Rattle.desk_wet.proofs as here

pub list_iban_one : One _ here.lanecockle_list_iban.Kinds.ps here.lanecockle_list_iban.Kinds.r here.lanecockle_list_iban.Reads.Post
list_iban_one κs a z z' w w' p q = (p.0 ∙ sym q.0, p.1 ∙ sym q.1)

pub list_reference_one : One _ here.lanecockle_list_reference.Kinds.ps here.lanecockle_list_reference.Kinds.r here.lanecockle_list_reference.Reads.Post
list_reference_one κs a z z' w w' p q = (p.0 ∙ sym q.0, p.1 ∙ sym q.1)

pub filled_one : One _ here.lanecockle_filled.Kinds.ps here.lanecockle_filled.Kinds.r here.lanecockle_filled.Reads.Post
filled_one κs a z z' w w' p q = (p.0 ∙ sym q.0, p.1 ∙ sym q.1)
