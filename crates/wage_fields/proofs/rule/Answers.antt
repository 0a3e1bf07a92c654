-- `wage_fields::rule` meets its contract: one rule for each type of line. Assumes nothing.
use Rattle.wage_fields.specs.Rules.{place_verdict}
use Rattle.wage_fields.proofs.rule.Goals as goal

pub returns-in-Label : goal.returns-in-Label
unfolding place_verdict
returns-in-Label c = rw c.in-Label.is c.label_rule.ensures

pub returns-in-Group : goal.returns-in-Group
unfolding place_verdict
returns-in-Group c = rw c.in-Group.is c.group_rule.ensures

pub returns-in-Order : goal.returns-in-Order
unfolding place_verdict
returns-in-Order c = rw c.in-Order.is c.order_rule.ensures

pub returns-in-Closing : goal.returns-in-Closing
unfolding place_verdict
returns-in-Closing c = rw c.in-Closing.is
