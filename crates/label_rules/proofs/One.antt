-- Any two answers that the contract of a public call allows are equal, and so is what they leave in lent memory. Assumes nothing.
use Rattle.refusal.proofs.Basics.{sym, ◌∙◌}
use Rattle.refusal.specs.One.{One}
use Rattle.label_rules.proofs as here

pub label_rule_one : One _ here.label_rule.Kinds.ps here.label_rule.Kinds.r here.label_rule.Reads.Post
label_rule_one κs a z z' w w' p q = p ∙ sym q
