-- Any two answers that the contract of a public call allows are equal, and so is what they leave in lent memory. Assumes nothing.
use Rattle.refusal.proofs.Basics.{sym, ◌∙◌}
use Rattle.refusal.specs.One.{One}
use Rattle.account.proofs as here

pub is_iban_formed_one : One _ here.is_iban_formed.Kinds.ps here.is_iban_formed.Kinds.r here.is_iban_formed.Reads.Post
is_iban_formed_one κs a z z' w w' p q = p ∙ sym q

pub iban_passes_one : One _ here.iban_passes.Kinds.ps here.iban_passes.Kinds.r here.iban_passes.Reads.Post
iban_passes_one κs a z z' w w' p q = p ∙ sym q

pub check_iban_one : One _ here.check_iban.Kinds.ps here.check_iban.Kinds.r here.check_iban.Reads.Post
check_iban_one κs a z z' w w' p q = p ∙ sym q

pub iban_one : One _ here.iban.Kinds.ps here.iban.Kinds.r here.iban.Reads.Post
iban_one κs a z z' w w' p q = p ∙ sym q

pub oib_passes_one : One _ here.oib_passes.Kinds.ps here.oib_passes.Kinds.r here.oib_passes.Reads.Post
oib_passes_one κs a z z' w w' p q = p ∙ sym q

pub oib_one : One _ here.oib.Kinds.ps here.oib.Kinds.r here.oib.Reads.Post
oib_one κs a z z' w w' p q = p ∙ sym q
