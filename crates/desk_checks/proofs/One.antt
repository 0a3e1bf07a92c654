-- Any two answers that the contract of a public call allows are equal, and so is what they leave in lent memory. Assumes nothing.
use Rattle.refusal.proofs.Basics.{sym, ◌∙◌}
use Rattle.refusal.specs.One.{One}
use Rattle.desk_checks.proofs as here

pub check_digits_one : One _ here.lanecockle_check_digits.Kinds.ps here.lanecockle_check_digits.Kinds.r here.lanecockle_check_digits.Reads.Post
check_digits_one κs a z z' w w' p q = p ∙ sym q

pub make_digit_one : One _ here.lanecockle_make_digit.Kinds.ps here.lanecockle_make_digit.Kinds.r here.lanecockle_make_digit.Reads.Post
make_digit_one κs a z z' w w' p q = p ∙ sym q

pub iban_one : One _ here.lanecockle_iban.Kinds.ps here.lanecockle_iban.Kinds.r here.lanecockle_iban.Reads.Post
iban_one κs a z z' w w' p q = p ∙ sym q

pub oib_one : One _ here.lanecockle_oib.Kinds.ps here.lanecockle_oib.Kinds.r here.lanecockle_oib.Reads.Post
oib_one κs a z z' w w' p q = p ∙ sym q

pub reference_one : One _ here.lanecockle_reference.Kinds.ps here.lanecockle_reference.Kinds.r here.lanecockle_reference.Reads.Post
reference_one κs a z z' w w' p q = p ∙ sym q
