-- Any two answers that the contract of a public call allows are equal, and so is what they leave in lent memory. Assumes nothing.
use Rattle.refusal.proofs.Basics.{sym, ◌∙◌}
use Rattle.refusal.specs.One.{One}
use Rattle.boundary.proofs as here

pub accept_one : One _ here.accept.Kinds.ps here.accept.Kinds.r here.accept.Reads.Post
accept_one κs a z z' w w' p q = p ∙ sym q

pub refuse_one : One _ here.refuse.Kinds.ps here.refuse.Kinds.r here.refuse.Reads.Post
refuse_one κs a z z' w w' p q = p ∙ sym q

pub tell_one : One _ here.tell.Kinds.ps here.tell.Kinds.r here.tell.Reads.Post
tell_one κs a z z' w w' p q = p ∙ sym q

pub tell_verdict_one : One _ here.tell_verdict.Kinds.ps here.tell_verdict.Kinds.r here.tell_verdict.Reads.Post
tell_verdict_one κs a z z' w w' p q = p ∙ sym q

pub tell_rule_one : One _ here.tell_rule.Kinds.ps here.tell_rule.Kinds.r here.tell_rule.Reads.Post
tell_rule_one κs a z z' w w' p q = p ∙ sym q

pub accept_value_one : One _ here.accept_value.Kinds.ps here.accept_value.Kinds.r here.accept_value.Reads.Post
accept_value_one κs a z z' w w' p q = p ∙ sym q

pub refuse_value_one : One _ here.refuse_value.Kinds.ps here.refuse_value.Kinds.r here.refuse_value.Reads.Post
refuse_value_one κs a z z' w w' p q = p ∙ sym q

pub tell_valued_one : One _ here.tell_valued.Kinds.ps here.tell_valued.Kinds.r here.tell_valued.Reads.Post
tell_valued_one κs a z z' w w' p q = p ∙ sym q
