-- Any two answers that the contract of a public call allows are equal, and so is what they leave in lent memory. Assumes nothing.
use Rattle.refusal.proofs.Basics.{sym, ◌∙◌}
use Rattle.refusal.specs.One.{One, OneSeen}
use Rattle.standing_text.proofs as here

pub judge_sheets_one : One _ here.judge_sheets.Kinds.ps here.judge_sheets.Kinds.r here.judge_sheets.Reads.Post
judge_sheets_one κs a z z' w w' p q = p ∙ sym q

pub supply_one : One _ here.supply.Kinds.ps here.supply.Kinds.r here.supply.Reads.Post
supply_one κs a z z' w w' p q = p ∙ sym q

pub ask_one : One _ here.ask.Kinds.ps here.ask.Kinds.r here.ask.Reads.Post
ask_one κs a z z' w w' p q = p ∙ sym q

pub judge_one_lem : One _ here.judge.Kinds.ps here.judge.Kinds.r here.judge.Reads.Post
judge_one_lem κs a z z' w w' p q = p ∙ sym q

pub bytes_in_one : OneSeen _ here.bytes_in.Kinds.ps here.bytes_in.Kinds.r (λ κs z. z.now) here.bytes_in.Reads.Post
bytes_in_one κs a z z' w w' p q = p ∙ sym q

pub text_one : OneSeen _ here.text.Kinds.ps here.text.Kinds.r (λ κs z. z.now) here.text.Reads.Post
text_one κs a z z' w w' p q = p ∙ sym q
