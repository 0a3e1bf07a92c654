-- `slip_writer::put_line` meets its contract. Assumes nothing.
use Rattle.refusal.proofs.Basics.{arith}
use Rattle.slip_writer.proofs.Laws.{line_length, line_stands, room_feed}
use Rattle.slip_writer.proofs.put_line.Goals as goal

pub put-next-requires : goal.put-next-requires
put-next-requires c = omega (arith, line_length c.args.s.now, c.requires)

pub bounds-out-next : goal.bounds-out-next
bounds-out-next c = room_feed c.args.s.now c.requires c.put-next.ensures

pub returns : goal.returns
returns c = line_stands c.put-next.ensures
