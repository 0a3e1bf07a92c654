-- Any two answers that the contract of a public call allows are equal, and so is what they leave in lent memory. Assumes nothing.
use Rattle.refusal.proofs.Basics.{refl, sym, ◌∙◌}
use Rattle.refusal.specs.One.{One, OneSeen}
use Rattle.question.proofs as here

pub find_one : One _ here.find.Kinds.ps here.find.Kinds.r here.find.Reads.Post
find_one κs a z z' w w' p q = p ∙ sym q

pub behind_one : OneSeen _ here.behind.Kinds.ps here.behind.Kinds.r (λ κs z. z.now) here.behind.Reads.Post
behind_one κs a z z' w w' p q = p ∙ sym q

pub field_one : OneSeen _ here.field.Kinds.ps here.field.Kinds.r (λ κs z. z.now) here.field.Reads.Post
field_one κs a z z' w w' p q = p ∙ sym q

pub number_of_one : One _ here.number_of.Kinds.ps here.number_of.Kinds.r here.number_of.Reads.Post
number_of_one κs a z z' w w' p q = p ∙ sym q

pub number_at_one : One _ here.number_at.Kinds.ps here.number_at.Kinds.r here.number_at.Reads.Post
number_at_one κs a z z' w w' p q = p ∙ sym q

pub put_lines_one : One _ here.put_lines.Kinds.ps here.put_lines.Kinds.r here.put_lines.Reads.Post
put_lines_one κs a z z' w w' p q = (refl, p ∙ sym q)

pub put_fields_one : One _ here.put_fields.Kinds.ps here.put_fields.Kinds.r here.put_fields.Reads.Post
put_fields_one κs a z z' w w' p q = (refl, p ∙ sym q)

pub size_of_one : One _ here.size_of.Kinds.ps here.size_of.Kinds.r here.size_of.Reads.Post
size_of_one κs a z z' w w' p q = p ∙ sym q

pub put_sizes_one : One _ here.put_sizes.Kinds.ps here.put_sizes.Kinds.r here.put_sizes.Reads.Post
put_sizes_one κs a z z' w w' p q = (refl, p ∙ sym q)
