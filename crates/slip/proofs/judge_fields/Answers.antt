-- `slip::judge_fields` meets its contract. The loop's invariant: the answer is that of the pieces from `at` on, from field `n` on, after
-- the field that stands from `before` to `end`. Assumes nothing.
use Rattle.refusal.proofs.Basics.{sym, ◌∙◌, arith}
use Rattle.std.proofs.lemmas.Result.{err_from_is_err_and}
use Rattle.slip.proofs.Laws.{reached_ends, reached_next, reached_refusal, reached_last}
use Rattle.slip.proofs.judge_fields.Goals as goal

pub overflow_add-stop : goal.overflow_add-stop
overflow_add-stop c = let h = reached_ends _ _ _ _ _ _ c.loop-i.invariant _ (sym c.first_bad.ensures ∙ c.in-Some.is) in omega arith

pub slice_bounds-judge_one-end-in-Some : goal.slice_bounds-judge_one-end-in-Some
slice_bounds-judge_one-end-in-Some c = let h = reached_ends _ _ _ _ _ _ c.loop-i.invariant _ (sym c.first_bad.ensures ∙ c.in-Some.is) in omega arith

pub returns-in_err-judge_one : goal.returns-in_err-judge_one
returns-in_err-judge_one c =
    let p = err_from_is_err_and c.from_residual.result c.from_residual.ensures.1 in
    rw (p.1, p.2) (reached_refusal _ _ _ _ _ _ c.loop-i.invariant _ (sym c.first_bad.ensures ∙ c.in-Some.is) _ c.judge_one.ensures _ c.in_err-judge_one.was)

pub loop-i-smaller : goal.loop-i-smaller
loop-i-smaller c = let h = reached_ends _ _ _ _ _ _ c.loop-i.invariant _ (sym c.first_bad.ensures ∙ c.in-Some.is) in omega arith

pub loop-i-preserved : goal.loop-i-preserved
loop-i-preserved c = reached_next _ _ _ _ _ _ c.loop-i.invariant _ (sym c.first_bad.ensures ∙ c.in-Some.is) _ c.judge_one.ensures c.in_ok-judge_one.was

pub returns : goal.returns
returns c = reached_last _ _ _ _ _ _ c.loop-i.invariant (sym c.first_bad.ensures ∙ c.in_default.is)
