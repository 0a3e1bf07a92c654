-- `wage_printed::put_counts` meets its contract. Assumes nothing.
use Rattle.printed.proofs.Laws.{puts_then}
use Rattle.wage_printed.specs.FilePrinted.{ending_printed}
use Rattle.wage_printed.proofs.put_counts.Goals as goal

pub returns : goal.returns
unfolding ending_printed
returns c = puts_then c.put_counted-next.ensures
    (puts_then c.put_counted-next-2.ensures
    (puts_then c.put_counted-next-3.ensures c.put.ensures))
