-- `wage_fields::judge_places` meets its contract: the range of all places. Assumes nothing.
use Rattle.refusal.proofs.Basics.{◌∙◌, arith}
use Rattle.wage_fields.proofs.Laws.{range_end, range_all}
use Rattle.wage_fields.proofs.judge_places.Goals as goal

pub returns-then-count-eq0 : goal.returns-then-count-eq0
returns-then-count-eq0 c = let a = c.args in
    range_end a.day a.kind a.t a.s.now 0 _ (omega (arith, c.count-count.ensures)) ∙ range_all a.day a.kind a.t a.s.now

pub returns : goal.returns
returns c = let a = c.args in
    c.judge_range.ensures ∙ rw c.count-count.ensures (range_all a.day a.kind a.t a.s.now)
