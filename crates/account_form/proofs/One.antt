-- Any two answers that the contract of a public call allows are equal, and so is what they leave in lent memory. Assumes nothing.
use Rattle.refusal.proofs.Basics.{sym, ◌∙◌}
use Rattle.refusal.specs.One.{One}
use Rattle.account_form.proofs as here

pub is_formed_one : One _ here.is_formed.Kinds.ps here.is_formed.Kinds.r here.is_formed.Reads.Post
is_formed_one κs a z z' w w' p q = p ∙ sym q

pub judge_one_lem : One _ here.judge.Kinds.ps here.judge.Kinds.r here.judge.Reads.Post
judge_one_lem κs a z z' w w' p q = p ∙ sym q

pub account_or_iban_one : One _ here.account_or_iban.Kinds.ps here.account_or_iban.Kinds.r here.account_or_iban.Reads.Post
account_or_iban_one κs a z z' w w' p q = p ∙ sym q
