-- Any two answers that the contract of a public call allows are equal, and so is what they leave in lent memory. Assumes nothing.
use Rattle.refusal.proofs.Basics.{sym, ◌∙◌}
use Rattle.refusal.specs.One.{One}
use Rattle.verdict.proofs as here

pub told_one : One _ here.told.Kinds.ps here.told.Kinds.r here.told.Reads.Post
told_one κs a z z' w w' p q = p ∙ sym q

pub byte_of_one : One _ here.byte_of.Kinds.ps here.byte_of.Kinds.r here.byte_of.Reads.Post
byte_of_one κs a z z' w w' p q = p ∙ sym q

pub answer_of_one : One _ here.answer_of.Kinds.ps here.answer_of.Kinds.r here.answer_of.Reads.Post
answer_of_one κs a z z' w w' p q = p ∙ sym q

pub answer_in_one : One _ here.answer_in.Kinds.ps here.answer_in.Kinds.r here.answer_in.Reads.Post
answer_in_one κs a z z' w w' p q = p ∙ sym q

pub told_in_one : One _ here.told_in.Kinds.ps here.told_in.Kinds.r here.told_in.Reads.Post
told_in_one κs a z z' w w' p q = p ∙ sym q

pub only_if_one : One _ here.only_if.Kinds.ps here.only_if.Kinds.r here.only_if.Reads.Post
only_if_one κs a z z' w w' p q = p ∙ sym q
