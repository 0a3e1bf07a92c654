-- Any two answers that the contract of a public call allows are equal, and so is what they leave in lent memory. Assumes nothing.
use Rattle.refusal.proofs.Basics.{sym, ◌∙◌}
use Rattle.refusal.specs.One.{One}
use Rattle.classes.proofs as here

pub is_digit_one : One _ here.is_digit.Kinds.ps here.is_digit.Kinds.r here.is_digit.Reads.Post
is_digit_one κs a z z' w w' p q = p ∙ sym q

pub is_letter_one : One _ here.is_letter.Kinds.ps here.is_letter.Kinds.r here.is_letter.Reads.Post
is_letter_one κs a z z' w w' p q = p ∙ sym q

pub described_one : One _ here.described.Kinds.ps here.described.Kinds.r here.described.Reads.Post
described_one κs a z z' w w' p q = p ∙ sym q

pub permitted_one : One _ here.permitted.Kinds.ps here.permitted.Kinds.r here.permitted.Reads.Post
permitted_one κs a z z' w w' p q = p ∙ sym q
