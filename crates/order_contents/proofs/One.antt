-- Any two answers that the contract of a public call allows are equal, and so is what they leave in lent memory. Assumes nothing.
use Rattle.refusal.proofs.Basics.{sym, ◌∙◌}
use Rattle.refusal.specs.One.{One}
use Rattle.order_contents.proofs as here

pub judge_purpose_one : One _ here.judge_purpose.Kinds.ps here.judge_purpose.Kinds.r here.judge_purpose.Reads.Post
judge_purpose_one κs a z z' w w' p q = p ∙ sym q

pub judge_sign_one : One _ here.judge_sign.Kinds.ps here.judge_sign.Kinds.r here.judge_sign.Reads.Post
judge_sign_one κs a z z' w w' p q = p ∙ sym q

pub model_in_one : One _ here.model_in.Kinds.ps here.model_in.Kinds.r here.model_in.Reads.Post
model_in_one κs a z z' w w' p q = p ∙ sym q

pub judge_model_one : One _ here.judge_model.Kinds.ps here.judge_model.Kinds.r here.judge_model.Reads.Post
judge_model_one κs a z z' w w' p q = p ∙ sym q

pub judge_reference_one : One _ here.judge_reference.Kinds.ps here.judge_reference.Kinds.r here.judge_reference.Reads.Post
judge_reference_one κs a z z' w w' p q = p ∙ sym q

pub judge_description_one : One _ here.judge_description.Kinds.ps here.judge_description.Kinds.r here.judge_description.Reads.Post
judge_description_one κs a z z' w w' p q = p ∙ sym q

pub judge_code_one : One _ here.judge_code.Kinds.ps here.judge_code.Kinds.r here.judge_code.Reads.Post
judge_code_one κs a z z' w w' p q = p ∙ sym q
