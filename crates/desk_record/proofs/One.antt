-- Any two answers that the contract of a public call allows are equal, and so is what they leave in lent memory. Assumes nothing.
use Rattle.refusal.proofs.Basics.{sym, ◌∙◌}
use Rattle.refusal.specs.One.{One}
use Rattle.desk_record.proofs as here

pub judge_from_one : One _ here.judge_from.Kinds.ps here.judge_from.Kinds.r here.judge_from.Reads.Post
judge_from_one κs a z z' w w' p q = p ∙ sym q

pub record_from_one : One _ here.record_from.Kinds.ps here.record_from.Kinds.r here.record_from.Reads.Post
record_from_one κs a z z' w w' p q = p ∙ sym q
