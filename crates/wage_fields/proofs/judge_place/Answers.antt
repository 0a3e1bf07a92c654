-- `wage_fields::judge_place` meets its contract: a range of one place. Assumes nothing.
use Rattle.refusal.proofs.Basics.{◌∙◌, arith}
use Rattle.wage_fields.proofs.Laws.{few, range_one, range_past}
use Rattle.wage_fields.proofs.judge_place.Goals as goal

pub returns-then-count-k : goal.returns-then-count-k
returns-then-count-k c = let a = c.args in
    c.judge_range.ensures ∙ rw c.count-count.ensures (range_past a.day a.kind a.t a.s.now a.k (rw c.count-count.ensures at c.if-count-k.true))

pub overflow_add-k : goal.overflow_add-k
overflow_add-k c = omega (arith, c.count-count.ensures, few c.args.t)

pub returns : goal.returns
returns c = let a = c.args in c.judge_range-2.ensures ∙ range_one a.day a.kind a.t a.s.now a.k
