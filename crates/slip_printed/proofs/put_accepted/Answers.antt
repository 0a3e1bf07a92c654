-- `slip_printed::put_accepted` meets its contract. Assumes nothing.
use Rattle.printed.proofs.Laws.{puts_then}
use Rattle.slip_printed.proofs.put_accepted.Goals as goal

pub returns : goal.returns
returns c = puts_then c.put-next.ensures c.put_fields.ensures
