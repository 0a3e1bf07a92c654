-- Any two answers that the contract of a public call allows are equal, and so is what they leave in lent memory. Assumes nothing.
use Rattle.refusal.proofs.Basics.{sym, ◌∙◌}
use Rattle.refusal.specs.One.{One}
use Rattle.model_text.proofs as here

pub number_one : One _ here.number.Kinds.ps here.number.Kinds.r here.number.Reads.Post
number_one κs a z z' w w' p q = p ∙ sym q

pub judge_one_lem : One _ here.judge.Kinds.ps here.judge.Kinds.r here.judge.Reads.Post
judge_one_lem κs a z z' w w' p q = p ∙ sym q
