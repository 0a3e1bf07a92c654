-- Any two answers that the contract of a public call allows are equal, and so is what they leave in lent memory. Assumes nothing.
use Rattle.refusal.proofs.Basics.{sym, ◌∙◌}
use Rattle.refusal.specs.One.{One}
use Rattle.lent_order.proofs as here

pub judge_order_one : One _ here.judge_order.Kinds.ps here.judge_order.Kinds.r here.judge_order.Reads.Post
judge_order_one κs a z z' w w' p q = p ∙ sym q
