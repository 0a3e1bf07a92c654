-- Any two answers that the contract of a public call allows are equal, and so is what they leave in lent memory. Assumes nothing.
use Rattle.refusal.proofs.Basics.{sym, ◌∙◌}
use Rattle.refusal.specs.One.{One}
use Rattle.characters.proofs as here

pub judge_one_lem : One _ here.judge.Kinds.ps here.judge.Kinds.r here.judge.Reads.Post
judge_one_lem κs a z z' w w' p q = p ∙ sym q
