-- `slip_printed::put_field` meets its contract. Assumes nothing.
use Rattle.printed.proofs.Laws.{puts_then}
use Rattle.slip_printed.specs.SlipPrinted.{field_line}
use Rattle.slip_printed.proofs.put_field.Goals as goal

pub returns : goal.returns
unfolding field_line
returns c = puts_then c.put_number-next.ensures
    (puts_then c.put-next.ensures (puts_then c.put-next-2.ensures c.put.ensures))
