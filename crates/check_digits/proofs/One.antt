-- Any two answers that the contract of a public call allows are equal, and so is what they leave in lent memory. Assumes nothing.
use Rattle.refusal.proofs.Basics.{sym, ◌∙◌}
use Rattle.refusal.specs.One.{One}
use Rattle.check_digits.proofs as here

pub check_digit_one : One _ here.check_digit.Kinds.ps here.check_digit.Kinds.r here.check_digit.Reads.Post
check_digit_one κs a z z' w w' p q = p ∙ sym q

pub ends_right_one : One _ here.ends_right.Kinds.ps here.ends_right.Kinds.r here.ends_right.Reads.Post
ends_right_one κs a z z' w w' p q = p ∙ sym q

pub checked_one : One _ here.checked.Kinds.ps here.checked.Kinds.r here.checked.Reads.Post
checked_one κs a z z' w w' p q = p ∙ sym q

pub make_one : One _ here.make.Kinds.ps here.make.Kinds.r here.make.Reads.Post
make_one κs a z z' w w' p q = p ∙ sym q
