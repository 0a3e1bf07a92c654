-- `printed::put_counted` meets its contract. Assumes nothing.
use Rattle.printed.proofs.Laws.{puts_then}
use Rattle.printed.proofs.put_counted.Goals as goal

pub returns : goal.returns
returns c = puts_then c.put-next.ensures c.put_number.ensures
