-- `slip_writer::put_lines` meets its contract: one line behind another. Assumes nothing.
use Rattle.text.specs.Lines.{join_lines}
use Rattle.text.proofs.Stands.{stands_none}
use Rattle.slip_writer.proofs.Laws.{room_there, lines_more}
use Rattle.slip_writer.proofs.put_lines.Goals as goal

pub loop-s-init : goal.loop-s-init
unfolding join_lines
loop-s-init c = stands_none _ _

pub put_line-next-requires : goal.put_line-next-requires
put_line-next-requires c = room_there c.args.lines.now _ c.loop-s-test.true c.requires c.loop-s.invariant

pub loop-s-preserved : goal.loop-s-preserved
loop-s-preserved c = lines_more c.args.lines.now _ c.loop-s-test.true c.loop-s.invariant c.put_line-next.ensures
