-- Any two answers that the contract of a public call allows are equal, and so is what they leave in lent memory. Assumes nothing.
use Rattle.refusal.proofs.Basics.{sym, ◌∙◌}
use Rattle.refusal.specs.One.{One, OneSeen}
use Rattle.wage_places.proofs as here

pub spot_at_one : One _ here.spot_at.Kinds.ps here.spot_at.Kinds.r here.spot_at.Reads.Post
spot_at_one κs a z z' w w' p q = p ∙ sym q

pub count_one : One _ here.count.Kinds.ps here.count.Kinds.r here.count.Reads.Post
count_one κs a z z' w w' p q = p ∙ sym q

pub find_one : One _ here.find.Kinds.ps here.find.Kinds.r here.find.Reads.Post
find_one κs a z z' w w' p q = p ∙ sym q

pub part_one : OneSeen _ here.part.Kinds.ps here.part.Kinds.r (λ κs z. z.now) here.part.Reads.Post
part_one κs a z z' w w' p q = p ∙ sym q

pub part_at_one : OneSeen _ here.part_at.Kinds.ps here.part_at.Kinds.r (λ κs z. z.now) here.part_at.Reads.Post
part_at_one κs a z z' w w' p q = p ∙ sym q
