-- `wage_file::whole` meets its contract. Assumes nothing.
use Rattle.wage_file.specs.File.{file_answer}
use Rattle.wage_file.proofs.whole.Goals as goal

pub returns : goal.returns
unfolding file_answer
returns c = rw (c.end.ensures, c.lines.ensures, c.begin.ensures)
