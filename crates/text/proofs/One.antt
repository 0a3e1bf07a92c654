-- Any two answers that the contract of a public call allows are equal, and so is what they leave in lent memory. Assumes nothing.
use Rattle.refusal.proofs.Basics.{sym, ◌∙◌}
use Rattle.refusal.specs.One.{One, OneSeen}
use Rattle.text.proofs as here

pub front_one : OneSeen _ here.front.Kinds.ps here.front.Kinds.r (λ κs z. z.now) here.front.Reads.Post
front_one κs a z z' w w' p q = p ∙ sym q

pub two_digits_one : One _ here.two_digits.Kinds.ps here.two_digits.Kinds.r here.two_digits.Reads.Post
two_digits_one κs a z z' w w' p q = p ∙ sym q

pub first_bad_one : One _ here.first_bad.Kinds.ps here.first_bad.Kinds.r here.first_bad.Reads.Post
first_bad_one κs a z z' w w' p q = p ∙ sym q

pub judge_one_lem : One _ here.judge.Kinds.ps here.judge.Kinds.r here.judge.Reads.Post
judge_one_lem κs a z z' w w' p q = p ∙ sym q

pub all_blank_one : One _ here.all_blank.Kinds.ps here.all_blank.Kinds.r here.all_blank.Reads.Post
all_blank_one κs a z z' w w' p q = p ∙ sym q

pub all_of_one : One _ here.all_of.Kinds.ps here.all_of.Kinds.r here.all_of.Reads.Post
all_of_one κs a z z' w w' p q = p ∙ sym q

pub all_described_one : One _ here.all_described.Kinds.ps here.all_described.Kinds.r here.all_described.Reads.Post
all_described_one κs a z z' w w' p q = p ∙ sym q

pub trim_one : OneSeen _ here.trim.Kinds.ps here.trim.Kinds.r (λ κs z. z.now) here.trim.Reads.Post
trim_one κs a z z' w w' p q = p ∙ sym q

pub count_one : One _ here.count.Kinds.ps here.count.Kinds.r here.count.Reads.Post
count_one κs a z z' w w' p q = p ∙ sym q
