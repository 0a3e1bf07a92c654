-- `slip_writer::put_head` meets its contract: three lines, the amount the last. Assumes nothing.
use Rattle.refusal.proofs.Basics.{refl}
use Rattle.slip_writer.proofs.Laws.{amount_digits}
use Rattle.slip_writer.proofs.put_head.Goals as goal

pub put_lines-requires : goal.put_lines-requires
put_lines-requires c = rw (amount_digits _ _ refl c.put_digits.ensures) c.requires

pub returns : goal.returns
returns c = rw (← amount_digits _ _ refl c.put_digits.ensures) c.put_lines.ensures
