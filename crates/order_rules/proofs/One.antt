-- Any two answers that the contract of a public call allows are equal, and so is what they leave in lent memory. Assumes nothing.
use Rattle.refusal.proofs.Basics.{sym, ◌∙◌}
use Rattle.refusal.specs.One.{One}
use Rattle.order_rules.proofs as here

pub order_rule_one : One _ here.order_rule.Kinds.ps here.order_rule.Kinds.r here.order_rule.Reads.Post
order_rule_one κs a z z' w w' p q = p ∙ sym q
