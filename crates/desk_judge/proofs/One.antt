-- Any two answers that the contract of a public call allows are equal, and so is what they leave in lent memory. Assumes nothing.
use Rattle.refusal.proofs.Basics.{sym, ◌∙◌}
use Rattle.refusal.specs.One.{One}
use Rattle.desk_judge.proofs as here

pub judge_begin_one : One _ here.lanecockle_judge_begin.Kinds.ps here.lanecockle_judge_begin.Kinds.r here.lanecockle_judge_begin.Reads.Post
judge_begin_one κs a z z' w w' p q = p ∙ sym q

pub judge_step_one : One _ here.lanecockle_judge_step.Kinds.ps here.lanecockle_judge_step.Kinds.r here.lanecockle_judge_step.Reads.Post
judge_step_one κs a z z' w w' p q = p ∙ sym q

pub judge_lines_one : One _ here.lanecockle_judge_lines.Kinds.ps here.lanecockle_judge_lines.Kinds.r here.lanecockle_judge_lines.Reads.Post
judge_lines_one κs a z z' w w' p q = p ∙ sym q

pub judge_end_one : One _ here.lanecockle_judge_end.Kinds.ps here.lanecockle_judge_end.Kinds.r here.lanecockle_judge_end.Reads.Post
judge_end_one κs a z z' w w' p q = p ∙ sym q

pub wage_file_one : One _ here.lanecockle_wage_file.Kinds.ps here.lanecockle_wage_file.Kinds.r here.lanecockle_wage_file.Reads.Post
wage_file_one κs a z z' w w' p q = p ∙ sym q

pub wage_place_one : One _ here.lanecockle_wage_place.Kinds.ps here.lanecockle_wage_place.Kinds.r here.lanecockle_wage_place.Reads.Post
wage_place_one κs a z z' w w' p q = p ∙ sym q
