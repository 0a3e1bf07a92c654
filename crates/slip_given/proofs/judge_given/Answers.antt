-- `slip_given::judge_given` meets its contract: the first refusal stands. Assumes nothing.
use Rattle.refusal.proofs.Basics.{◌≡◌, sym, ◌∙◌, arith, ◌+◌}
use Rattle.std.proofs.lemmas.List.{drop_all}
use Rattle.std.proofs.lemmas.Result.{err_from_is_err_and}
use Rattle.slip_given.specs.Given.{given_answer}
use Rattle.slip_given.proofs.Laws.{refused_first, accepted_next}
use Rattle.slip_given.proofs.judge_given.Goals as goal

pub returns-in_err-judge_one : goal.returns-in_err-judge_one
returns-in_err-judge_one c =
    let p = err_from_is_err_and c.from_residual.result c.from_residual.ensures.1 in
    rw (p.1, p.2) (refused_first c.args.fields.now c.loop-i.i _ _ (omega (arith, c.loop-i-test.true)) c.judge_one.ensures _ c.in_err-judge_one.was ∙ c.loop-i.invariant)

pub loop-i-preserved : goal.loop-i-preserved
loop-i-preserved c =
    let z : c.loop-i.i + 1 + 4 ≡ c.loop-i.i + 4 + 1 = omega arith in
    rw z (sym (accepted_next c.args.fields.now c.loop-i.i _ _ (omega (arith, c.loop-i-test.true)) c.judge_one.ensures c.in_ok-judge_one.was) ∙ c.loop-i.invariant)

pub returns : goal.returns
unfolding given_answer
returns c = rw (drop_all c.loop-i.i c.args.fields.now (omega (arith, c.told-fields, c.loop-i-test.false))) at c.loop-i.invariant
