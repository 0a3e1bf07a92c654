-- `group_writer::draft_worked` meets its contract: the digits are two fields, one behind the other. Assumes nothing.
use Rattle.room.proofs.Digits.{digits_length}
use Rattle.group_writer.proofs.Laws.{two_fields}
use Rattle.group_writer.proofs.draft_worked.Goals as goal

pub returns : goal.returns
returns c = rw (c.put_worked.ensures, two_fields _ _ (digits_length 5 _) (digits_length 20 _)) at c.draft.ensures
