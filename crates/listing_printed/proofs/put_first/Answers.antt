-- `listing_printed::put_first` meets its contract: each arm puts its texts one behind the other. Assumes nothing.
use Rattle.printed.proofs.Laws.{puts_then}
use Rattle.listing_printed.specs.Listing.{first_line}
use Rattle.listing_printed.proofs.put_first.Goals as goal

pub returns-in-Ok : goal.returns-in-Ok
unfolding first_line
returns-in-Ok c = rw c.in-Ok.is
    (puts_then c.put_number-next.ensures c.put.ensures)

pub returns-in-Err : goal.returns-in-Err
unfolding first_line
returns-in-Err c = rw (c.in-Err.is, ← c.number-number.ensures)
    (puts_then c.put_counted-next.ensures c.put-in-Err.ensures)
