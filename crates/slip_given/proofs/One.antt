-- Any two answers that the contract of a public call allows are equal, and so is what they leave in lent memory. Assumes nothing.
use Rattle.refusal.proofs.Basics.{sym, ◌∙◌}
use Rattle.refusal.specs.One.{One}
use Rattle.slip_given.proofs as here

pub judge_given_one : One _ here.judge_given.Kinds.ps here.judge_given.Kinds.r here.judge_given.Reads.Post
judge_given_one κs a z z' w w' p q = p ∙ sym q
