-- `printed::put_place` meets its contract. Assumes nothing.
use Rattle.printed.specs.Printed.{place_text}
use Rattle.printed.proofs.Laws.{puts_then}
use Rattle.printed.proofs.put_place.Goals as goal

pub returns : goal.returns
unfolding place_text
returns c = puts_then c.put_counted-next.ensures
    (puts_then c.put_counted-next-2.ensures
    (puts_then c.put_counted-next-3.ensures c.put.ensures))
