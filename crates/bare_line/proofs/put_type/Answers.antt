-- `wage_draft::put_type` meets its contract. Assumes nothing.
use Rattle.wage_line.specs.Line.{type_text}
use Rattle.bare_line.proofs.put_type.Goals as goal

pub returns-in-Label : goal.returns-in-Label
unfolding type_text
returns-in-Label c = rw c.in-Label.is c.put.ensures

pub returns-in-Group : goal.returns-in-Group
unfolding type_text
returns-in-Group c = rw c.in-Group.is c.put-in-Group.ensures

pub returns-in-Order : goal.returns-in-Order
unfolding type_text
returns-in-Order c = rw c.in-Order.is c.put-in-Order.ensures

pub returns-in-Closing : goal.returns-in-Closing
unfolding type_text
returns-in-Closing c = rw c.in-Closing.is c.put-in-Closing.ensures
