-- `room::put` meets its contract: a byte more is written, and the loop ends with the room or the text. Assumes nothing.
use Rattle.refusal.proofs.Basics.{arith, sets}
use Rattle.room.proofs.Laws.{copied_more, copied_all, copied_full}
use Rattle.room.proofs.put.Goals as goal

pub returns-then-out-next : goal.returns-then-out-next
returns-then-out-next c = let l = c.loop-b in
    let a = c.args in
    copied_full a.s.now l.out (sets a.out.now a.at a.s.now) l.next l.b-index (omega arith) l.invariant

pub loop-b-preserved : goal.loop-b-preserved
loop-b-preserved c = let l = c.loop-b in
    let a = c.args in
    copied_more a.s.now l.out (sets a.out.now a.at a.s.now) l.next l.b-index (omega arith) l.invariant

pub returns : goal.returns
returns c = let l = c.loop-b in
    let a = c.args in
    copied_all a.s.now l.out (sets a.out.now a.at a.s.now) l.next l.b-index (omega arith) l.invariant
