-- Any two answers that the contract of a public call allows are equal, and so is what they leave in lent memory. Assumes nothing.
use Rattle.refusal.proofs.Basics.{sym, ◌∙◌}
use Rattle.refusal.specs.One.{One}
use Rattle.desk_ledger.proofs as here

pub ledger_read_one : One _ here.lanecockle_ledger_read.Kinds.ps here.lanecockle_ledger_read.Kinds.r here.lanecockle_ledger_read.Reads.Post
ledger_read_one κs a z z' w w' p q = p ∙ sym q

pub ledger_field_one : One _ here.lanecockle_ledger_field.Kinds.ps here.lanecockle_ledger_field.Kinds.r here.lanecockle_ledger_field.Reads.Post
ledger_field_one κs a z z' w w' p q = p ∙ sym q

pub lipa_in_cents_one : One _ here.lanecockle_lipa_in_cents.Kinds.ps here.lanecockle_lipa_in_cents.Kinds.r here.lanecockle_lipa_in_cents.Reads.Post
lipa_in_cents_one κs a z z' w w' p q = p ∙ sym q
