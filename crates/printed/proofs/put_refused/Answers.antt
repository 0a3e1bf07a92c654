-- `printed::put_refused` meets its contract. Assumes nothing.
use Rattle.printed.specs.Printed.{refused_text}
use Rattle.printed.proofs.Laws.{puts_then}
use Rattle.printed.proofs.put_refused.Goals as goal

pub returns : goal.returns
unfolding refused_text
returns c = rw (← c.number-number.ensures, ← c.told.ensures)
    (puts_then c.put_counted-next.ensures c.put_place.ensures)
