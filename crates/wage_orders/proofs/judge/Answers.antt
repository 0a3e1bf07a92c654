-- `wage_orders::judge` meets its contract. Assumes nothing.
use Rattle.refusal.proofs.Basics.{refl, le-leb, lt-leb, eq-eqb, ne_eqb, taken, left, entered}
use Rattle.wage_orders.specs.Orders.{group_orders}
use Rattle.wage_orders.proofs.judge.Goals as goal

pub returns-then-s-ne0 : goal.returns-then-s-ne0
unfolding group_orders
returns-then-s-ne0 c = rw c.nowhere.ensures (left _ _ _ _ (ne_eqb _ _ c.if-s-ne0.true) refl)

pub returns-then-s-eq0 : goal.returns-then-s-eq0
unfolding group_orders
returns-then-s-eq0 c = rw c.nowhere-then-s-eq0.ensures (entered _ _ _ _ (eq-eqb _ _ c.if-s-ne0.false) (taken _ _ _ (eq-eqb _ _ c.if-s-eq0.true)))

pub returns-then-s-gt99999 : goal.returns-then-s-gt99999
unfolding group_orders
returns-then-s-gt99999 c = rw c.nowhere-then-s-gt99999.ensures (entered _ _ _ _ (eq-eqb _ _ c.if-s-ne0.false) (left _ _ _ _ (ne_eqb _ _ c.if-s-eq0.false) (left _ _ _ _ (lt-leb _ _ c.if-s-gt99999.true) refl)))

pub returns : goal.returns
unfolding group_orders
returns c = entered _ _ _ _ (eq-eqb _ _ c.if-s-ne0.false) (left _ _ _ _ (ne_eqb _ _ c.if-s-eq0.false) (entered _ _ _ _ (le-leb _ _ c.if-s-gt99999.false) c.judge_lines.ensures))
