-- `group_writer::put_worked` meets its contract: three runs of digits fill the room, and the last two are the sum's. Assumes nothing.
use Rattle.group_writer.proofs.Laws.{worked_digits}
use Rattle.group_writer.proofs.put_worked.Goals as goal

pub returns : goal.returns
returns c = worked_digits c.args.digits.now _ _ c.total-sum.result c.number-number.result _ _ _ c.requires.0 c.requires.1 c.number-number.ensures c.total-sum.ensures c.put_digits.ensures c.put_digits-2.ensures c.put_digits-3.ensures
