-- `wage_orders::judge_lines` meets its contract: an accepted line leaves those behind it, a refused one is the answer. Assumes nothing.
use Rattle.refusal.proofs.Basics.{sym, ◌∙◌, ap, arith, length, length-append}
use Rattle.std.specs.Slice.Iter.{chunks_rest}
use Rattle.std.proofs.lemmas.Result.{err_from_is_err_and}
use Rattle.wage_line.proofs.PieceLaws.{pieces_cut}
use Rattle.wage_orders.proofs.Laws.{orders_on, orders_stop, orders_end}
use Rattle.wage_orders.proofs.judge_lines.Goals as goal

pub loop-line-preserved : goal.loop-line-preserved
loop-line-preserved c = let g = c.args in
    let l = c.loop-line in
    let p = c.in-Some.ensures.steps in (
      p.0 ∙ l.invariant.0,
      omega (arith, ap length p.1.0, length-append c.in-Some.line.now (chunks_rest c.next.new.self)),
      l.invariant.2 ∙ orders_on g.day g.kind l.n _ _ _ (pieces_cut _ _ _ p.1.0 (rw l.invariant.0 at p.1.1) p.1.2) (sym c.judge_order.ensures ∙ c.in_ok-judge_order.was),
    )

pub returns : goal.returns
returns c = let g = c.args in
    let l = c.loop-line in
    sym (l.invariant.2 ∙ orders_end g.day g.kind l.n _ c.in-None.ensures.steps.1.0)

pub returns-in_err-judge_order : goal.returns-in_err-judge_order
returns-in_err-judge_order c = let g = c.args in
    let l = c.loop-line in
    let p = c.in-Some.ensures.steps in
    let e = err_from_is_err_and c.from_residual.result c.from_residual.ensures.1 in
    rw (e.1, e.2) (sym (l.invariant.2 ∙ orders_stop g.day g.kind l.n _ _ _ (pieces_cut _ _ _ p.1.0 (rw l.invariant.0 at p.1.1) p.1.2) _ (sym c.judge_order.ensures ∙ c.in_err-judge_order.was)))
