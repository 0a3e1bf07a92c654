-- `line_room::put_line` meets its contract: the line is put at the front where there is room for it. Assumes nothing.
use Rattle.refusal.proofs.Basics.{rules, arith}
use Rattle.line_room.proofs.Laws.{room_enough}
use Rattle.line_room.proofs.put_line.Goals as goal

pub returns : goal.returns
returns c = room_enough c.args.line.now c.args.out.now _ (search rules) (omega arith) c.put.ensures
