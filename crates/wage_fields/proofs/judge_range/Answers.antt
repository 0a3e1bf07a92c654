-- `wage_fields::judge_range` meets its contract. The loop's invariant: the answer is that of the places from `k` on. Assumes nothing.
use Rattle.refusal.proofs.Basics.{sym, ◌∙◌, arith}
use Rattle.wage_fields.proofs.Laws.{fits, range_end, range_size, range_on, range_stop}
use Rattle.wage_fields.proofs.judge_range.Goals as goal

pub returns-then-s-ne1002 : goal.returns-then-s-ne1002
returns-then-s-ne1002 c = let a = c.args in
    rw c.nowhere.ensures (range_size a.day a.kind a.t a.s.now a.first a.last (omega arith) c.if-s-ne1002.true)

pub told-requires : goal.told-requires
told-requires c = let a = c.args in
    fits a.day a.kind a.t c.places.k a.s.now _ _ c.spot_at.ensures (sym c.in-Err.is ∙ c.rule.ensures)

pub places-preserved : goal.places-preserved
places-preserved c = let a = c.args in
    let l = c.places in
    l.invariant ∙ range_on a.day a.kind a.t a.s.now l.k a.last c.if-last-k.false c.if-s-ne1002.false _ c.rule.ensures c.in-Ok.is

pub returns-then-last-k : goal.returns-then-last-k
returns-then-last-k c = let a = c.args in
    let l = c.places in
    range_end a.day a.kind a.t a.s.now l.k a.last c.if-last-k.true ∙ sym l.invariant

pub returns-in-Err : goal.returns-in-Err
returns-in-Err c = let a = c.args in
    let l = c.places in
    rw (c.told.ensures, c.spot_at.ensures) (range_stop a.day a.kind a.t a.s.now l.k a.last c.if-last-k.false c.if-s-ne1002.false _ c.rule.ensures _ c.in-Err.is ∙ sym l.invariant)
