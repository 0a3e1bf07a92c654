-- `listing_printed::put_filled` meets its contract: the filled text stands at the front of the room, and the line feed is put behind it.
-- Assumes nothing.
use Rattle.refusal.proofs.Basics.{sym, ◌∙◌}
use Rattle.listing_printed.proofs.Laws.{line_put}
use Rattle.listing_printed.proofs.put_filled.Goals as goal

pub returns-in-Ok : goal.returns-in-Ok
returns-in-Ok c = let a = c.args in
    let w = c.filled.ensures in
    line_put a.text.now a.number (sym w.0 ∙ c.in-Ok.is) (w.1 ∙ rw c.in-Ok.is) c.put.ensures
