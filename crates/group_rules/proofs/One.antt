-- Any two answers that the contract of a public call allows are equal, and so is what they leave in lent memory. Assumes nothing.
use Rattle.refusal.proofs.Basics.{sym, ◌∙◌}
use Rattle.refusal.specs.One.{One}
use Rattle.group_rules.proofs as here

pub group_rule_one : One _ here.group_rule.Kinds.ps here.group_rule.Kinds.r here.group_rule.Reads.Post
group_rule_one κs a z z' w w' p q = p ∙ sym q
