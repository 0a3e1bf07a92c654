-- Any two answers that the contract of a public call allows are equal, and so is what they leave in lent memory. Assumes nothing.
use Rattle.refusal.proofs.Basics.{sym, ◌∙◌}
use Rattle.refusal.specs.One.{One, OneSeen}
use Rattle.slip_handed.proofs as here

pub piece_text_one : OneSeen _ here.piece_text.Kinds.ps here.piece_text.Kinds.r (λ κs z. z.now) here.piece_text.Reads.Post
piece_text_one κs a z z' w w' p q = p ∙ sym q

pub part_in_one : One _ here.part_in.Kinds.ps here.part_in.Kinds.r here.part_in.Reads.Post
part_in_one κs a z z' w w' p q = p ∙ sym q

pub field_in_one : OneSeen _ here.field_in.Kinds.ps here.field_in.Kinds.r (λ κs z. z.now) here.field_in.Reads.Post
field_in_one κs a z z' w w' p q = p ∙ sym q

pub part_one : One _ here.part.Kinds.ps here.part.Kinds.r here.part.Reads.Post
part_one κs a z z' w w' p q = p ∙ sym q

pub field_one : OneSeen _ here.field.Kinds.ps here.field.Kinds.r (λ κs z. z.now) here.field.Reads.Post
field_one κs a z z' w w' p q = p ∙ sym q

pub cents_one : One _ here.cents.Kinds.ps here.cents.Kinds.r here.cents.Reads.Post
cents_one κs a z z' w w' p q = p ∙ sym q
