-- Any two answers that the contract of a public call allows are equal, and so is what they leave in lent memory. Assumes nothing.
use Rattle.refusal.proofs.Basics.{sym, ◌∙◌}
use Rattle.refusal.specs.One.{One, OneSeen}
use Rattle.listing_printed.proofs as here

pub text_one : OneSeen _ here.text.Kinds.ps here.text.Kinds.r (λ κs z. z.now) here.text.Reads.Post
text_one κs a z z' w w' p q = p ∙ sym q

pub list_one : One _ here.list.Kinds.ps here.list.Kinds.r here.list.Reads.Post
list_one κs a z z' w w' p q = (p.0 ∙ sym q.0, rw (p.1, q.1, p.0, q.0))

pub put_first_one : One _ here.put_first.Kinds.ps here.put_first.Kinds.r here.put_first.Reads.Post
put_first_one κs a z z' w w' p q = (p.answers ∙ sym q.answers, p.leaves ∙ sym q.leaves)

pub put_filled_one : One _ here.put_filled.Kinds.ps here.put_filled.Kinds.r here.put_filled.Reads.Post
put_filled_one κs a z z' w w' p q = (p.answers ∙ sym q.answers, p.leaves ∙ sym q.leaves)
