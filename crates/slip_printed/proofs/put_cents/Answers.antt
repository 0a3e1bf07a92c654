-- `slip_printed::put_cents` meets its contract: the nearest cent is one number. Assumes nothing.
use Rattle.units.proofs.Theorems.{nearest_is}
use Rattle.printed.proofs.Laws.{puts_then}
use Rattle.slip_printed.specs.SlipPrinted.{cents_line}
use Rattle.slip_printed.proofs.put_cents.Goals as goal

pub returns : goal.returns
unfolding cents_line
returns c = rw (← (nearest_is c.args.lipa.number c.in_cents-cents.result.number c.in_cents-cents.ensures))
    (puts_then c.put-next.ensures (puts_then c.put_number-next.ensures c.put.ensures))
