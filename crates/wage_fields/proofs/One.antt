-- Any two answers that the contract of a public call allows are equal, and so is what they leave in lent memory. Assumes nothing.
use Rattle.refusal.proofs.Basics.{sym, ◌∙◌}
use Rattle.refusal.specs.One.{One}
use Rattle.wage_fields.proofs as here

pub judge_place_one : One _ here.judge_place.Kinds.ps here.judge_place.Kinds.r here.judge_place.Reads.Post
judge_place_one κs a z z' w w' p q = p ∙ sym q

pub judge_places_one : One _ here.judge_places.Kinds.ps here.judge_places.Kinds.r here.judge_places.Reads.Post
judge_places_one κs a z z' w w' p q = p ∙ sym q
