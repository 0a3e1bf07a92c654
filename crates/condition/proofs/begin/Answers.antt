-- `judge::begin` meets its contract: the definition's choice on the test. Assumes nothing.
use Rattle.condition.specs.Record.{begun}
use Rattle.condition.proofs.begin.Goals as goal

pub returns-then-is_date : goal.returns-then-is_date
unfolding begun
returns-then-is_date c = rw (c.zero.ensures, c.nothing-zero.ensures, ← c.is_date.ensures, c.if-is_date.true)

pub returns : goal.returns
unfolding begun
returns c = rw (c.refused.ensures, c.of_line.ensures, c.zero.ensures, c.nothing-zero.ensures, ← c.is_date.ensures, c.if-is_date.false)
