-- Any two answers that the contract of a public call allows are equal, and so is what they leave in lent memory. Assumes nothing.
use Rattle.refusal.proofs.Basics.{sym, ◌∙◌}
use Rattle.refusal.specs.One.{One}
use Rattle.wage_contents.proofs as here

pub judge_tested_one : One _ here.judge_tested.Kinds.ps here.judge_tested.Kinds.r here.judge_tested.Reads.Post
judge_tested_one κs a z z' w w' p q = p ∙ sym q

pub judge_among_one : One _ here.judge_among.Kinds.ps here.judge_among.Kinds.r here.judge_among.Reads.Post
judge_among_one κs a z z' w w' p q = p ∙ sym q

pub judge_oib_one : One _ here.judge_oib.Kinds.ps here.judge_oib.Kinds.r here.judge_oib.Reads.Post
judge_oib_one κs a z z' w w' p q = p ∙ sym q

pub judge_employer_one : One _ here.judge_employer.Kinds.ps here.judge_employer.Kinds.r here.judge_employer.Reads.Post
judge_employer_one κs a z z' w w' p q = p ∙ sym q

pub judge_date_one : One _ here.judge_date.Kinds.ps here.judge_date.Kinds.r here.judge_date.Reads.Post
judge_date_one κs a z z' w w' p q = p ∙ sym q

pub judge_iban_one : One _ here.judge_iban.Kinds.ps here.judge_iban.Kinds.r here.judge_iban.Reads.Post
judge_iban_one κs a z z' w w' p q = p ∙ sym q

pub judge_currency_one : One _ here.judge_currency.Kinds.ps here.judge_currency.Kinds.r here.judge_currency.Reads.Post
judge_currency_one κs a z z' w w' p q = p ∙ sym q
