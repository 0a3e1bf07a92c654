-- Any two answers that the contract of a public call allows are equal, and so is what they leave in lent memory. Assumes nothing.
use Rattle.refusal.proofs.Basics.{sym, ◌∙◌}
use Rattle.refusal.specs.One.{One}
use Rattle.condition.proofs as here

pub stage_one : One _ here.stage.Kinds.ps here.stage.Kinds.r here.stage.Reads.Post
stage_one κs a z z' w w' p q = p ∙ sym q

pub is_refused_one : One _ here.is_refused.Kinds.ps here.is_refused.Kinds.r here.is_refused.Reads.Post
is_refused_one κs a z z' w w' p q = p ∙ sym q

pub refusal_in_one : One _ here.refusal_in.Kinds.ps here.refusal_in.Kinds.r here.refusal_in.Reads.Post
refusal_in_one κs a z z' w w' p q = p ∙ sym q

pub of_line_one : One _ here.of_line.Kinds.ps here.of_line.Kinds.r here.of_line.Reads.Post
of_line_one κs a z z' w w' p q = p ∙ sym q

pub at_line_one : One _ here.at_line.Kinds.ps here.at_line.Kinds.r here.at_line.Reads.Post
at_line_one κs a z z' w w' p q = p ∙ sym q

pub refused_one : One _ here.refused.Kinds.ps here.refused.Kinds.r here.refused.Reads.Post
refused_one κs a z z' w w' p q = p ∙ sym q

pub is_sound_one : One _ here.is_sound.Kinds.ps here.is_sound.Kinds.r here.is_sound.Reads.Post
is_sound_one κs a z z' w w' p q = p ∙ sym q

pub begin_one : One _ here.begin.Kinds.ps here.begin.Kinds.r here.begin.Reads.Post
begin_one κs a z z' w w' p q = p ∙ sym q

pub end_one : One _ here.end.Kinds.ps here.end.Kinds.r here.end.Reads.Post
end_one κs a z z' w w' p q = p ∙ sym q
