-- `wage_writer::draft_line` meets its contract: the blanks are dressed, and all places drafted. Assumes nothing.
use Rattle.bare_line.proofs.Theorems.{bare}
use Rattle.wage_writer.proofs.Laws.{all_places}
use Rattle.wage_writer.proofs.draft_line.Goals as goal

pub returns : goal.returns
returns c = all_places c.args.day c.args.kind c.args.t _ _ _ _ _ c.count-count.ensures (bare c.args.t _ _ c.requires c.dress.ensures) c.draft.ensures
