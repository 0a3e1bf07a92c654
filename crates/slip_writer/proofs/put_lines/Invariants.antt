-- The loop of `slip_writer::put_lines`: the lines passed stand one behind another. Assumes nothing.
use Rattle.std.specs.Prelude.{take}
use Rattle.slip_given.specs.Given.{texts}
use Rattle.text.specs.Lines.{join_lines}
use Rattle.text.specs.Stands.{Stands}
use Rattle.slip_writer.proofs.put_lines.Given as goal

abbrev pub invariant-loop-s : goal.invariant-loop-s
invariant-loop-s l = Stands l.fn.out l.fn.at (join_lines (texts (take l.s-index l.lines))) l.next l.out
