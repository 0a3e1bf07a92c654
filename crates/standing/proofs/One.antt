-- Any two answers that the contract of a public call allows are equal, and so is what they leave in lent memory. Assumes nothing.
use Rattle.refusal.proofs.Basics.{sym, ◌∙◌}
use Rattle.refusal.specs.One.{One}
use Rattle.standing.proofs as here

pub judge_standing_one : One _ here.judge_standing.Kinds.ps here.judge_standing.Kinds.r here.judge_standing.Reads.Post
judge_standing_one κs a z z' w w' p q = p ∙ sym q

pub growth_one : One _ here.growth.Kinds.ps here.growth.Kinds.r here.growth.Reads.Post
growth_one κs a z z' w w' p q = p ∙ sym q

pub after_one : One _ here.after.Kinds.ps here.after.Kinds.r here.after.Reads.Post
after_one κs a z z' w w' p q = p ∙ sym q
