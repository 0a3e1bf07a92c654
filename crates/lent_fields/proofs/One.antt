-- Any two answers that the contract of a public call allows are equal, and so is what they leave in lent memory. Assumes nothing.
use Rattle.refusal.proofs.Basics.{sym, ◌∙◌}
use Rattle.refusal.specs.One.{One, OneSeen}
use Rattle.lent_fields.proofs as here

pub size_at_one : One _ here.size_at.Kinds.ps here.size_at.Kinds.r here.size_at.Reads.Post
size_at_one κs a z z' w w' p q = p ∙ sym q

pub end_of_one : One _ here.end_of.Kinds.ps here.end_of.Kinds.r here.end_of.Reads.Post
end_of_one κs a z z' w w' p q = p ∙ sym q

pub text_behind_one : OneSeen _ here.text_behind.Kinds.ps here.text_behind.Kinds.r (λ κs z. z.now) here.text_behind.Reads.Post
text_behind_one κs a z z' w w' p q = p ∙ sym q

pub given_one : OneSeen _ here.given.Kinds.ps here.given.Kinds.r (λ κs z. z.now) here.given.Reads.Post
given_one κs a z z' w w' p q = p ∙ sym q

pub is_lent_whole_one : One _ here.is_lent_whole.Kinds.ps here.is_lent_whole.Kinds.r here.is_lent_whole.Reads.Post
is_lent_whole_one κs a z z' w w' p q = p ∙ sym q

pub sizes_behind_one : OneSeen _ here.sizes_behind.Kinds.ps here.sizes_behind.Kinds.r (λ κs z. z.now) here.sizes_behind.Reads.Post
sizes_behind_one κs a z z' w w' p q = p ∙ sym q
