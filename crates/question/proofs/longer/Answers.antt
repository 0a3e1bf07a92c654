-- What is no digit is skipped; a digit is taken, or the number is capped.
use Rattle.refusal.proofs.Basics.{sym, ◌∙◌, arith}
use Rattle.text.proofs.Values.{value_skips, value_takes}
use Rattle.question.proofs.Laws.{capped_fits, capped_more}
use Rattle.question.proofs.longer.Goals as goal

pub returns-then-not-is_digit : goal.returns-then-not-is_digit
returns-then-not-is_digit c =
    rw (← (value_skips c.args.n c.args.b (sym c.is_digit.ensures ∙ c.if-not-is_digit.true)))
    (capped_fits c.args.n (omega arith))

pub returns-then-d-n : goal.returns-then-d-n
returns-then-d-n c =
    rw (← (value_takes c.args.n c.args.b (sym c.is_digit.ensures ∙ c.if-not-is_digit.false)))
    (capped_more _ (omega arith))

pub returns : goal.returns
returns c =
    rw (← (value_takes c.args.n c.args.b (sym c.is_digit.ensures ∙ c.if-not-is_digit.false)))
    (capped_fits _ (omega arith))
