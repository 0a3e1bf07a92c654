-- Any two answers that the contract of a public call allows are equal, and so is what they leave in lent memory. Assumes nothing.
use Rattle.refusal.proofs.Basics.{sym, ◌∙◌}
use Rattle.refusal.specs.One.{One, OneSeen}
use Rattle.ledger_slip.proofs as here

pub currency_one : One _ here.currency.Kinds.ps here.currency.Kinds.r here.currency.Reads.Post
currency_one κs a z z' w w' p q = p ∙ sym q

pub read_one : One _ here.read.Kinds.ps here.read.Kinds.r here.read.Reads.Post
read_one κs a z z' w w' p q = p ∙ sym q

pub part_one : One _ here.part.Kinds.ps here.part.Kinds.r here.part.Reads.Post
part_one κs a z z' w w' p q = p ∙ sym q

pub field_one : OneSeen _ here.field.Kinds.ps here.field.Kinds.r (λ κs z. z.now) here.field.Reads.Post
field_one κs a z z' w w' p q = p ∙ sym q
