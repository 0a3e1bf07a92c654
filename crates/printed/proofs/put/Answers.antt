-- `printed::put` meets its contract. Assumes nothing.
use Rattle.refusal.proofs.Basics.{sym, arith}
use Rattle.room.proofs.Laws.{sets_past}
use Rattle.printed.proofs.Laws.{ends_short}
use Rattle.printed.proofs.put.Goals as goal

pub returns-then-out-at : goal.returns-then-out-at
returns-then-out-at c = let a = c.args in
    record { answers = ends_short _ a.at a.s.now (omega arith); leaves = sym (sets_past _ a.at a.s.now (omega arith)) }
