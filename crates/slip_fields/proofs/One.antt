-- Any two answers that the contract of a public call allows are equal, and so is what they leave in lent memory. Assumes nothing.
use Rattle.refusal.proofs.Basics.{sym, ◌∙◌}
use Rattle.refusal.specs.One.{One}
use Rattle.slip_fields.proofs as here

pub judge_field_one : One _ here.judge_field.Kinds.ps here.judge_field.Kinds.r here.judge_field.Reads.Post
judge_field_one κs a z z' w w' p q = p ∙ sym q
