-- `desk_slips::lanecockle_slip_write` meets its contract: a slip written from two empty sheets, told. Assumes nothing.
use Rattle.desk_slips.proofs.Laws.{slip_told}
use Rattle.desk_slips.proofs.lanecockle_slip_write.Goals as goal

pub returns : goal.returns
returns c = slip_told _ _ _ _ _ _ _ c.tell_valued.ensures c.write-slip.ensures
