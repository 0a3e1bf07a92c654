-- `sums::with_digit` meets its contract: the tests say whether the byte is a digit, and whether ten times the high part may be below the limit. Assumes nothing.
use Rattle.refusal.proofs.Basics.{sym, ap, ◌∙◌, arith, ◌-◌, [], ◌∷◌, add-zero}
use Rattle.text.specs.Digits.{digits_of, value_from}
use Rattle.text.proofs.Values.{value_skips, value_takes}
use Rattle.sums.specs.Sums.{cents_of, sum_of}
use Rattle.sums.proofs.Laws.{sum_large, carried_digit}
use Rattle.sums.proofs.with_digit.Goals as goal

pub returns-then-not-is_ascii_digit : goal.returns-then-not-is_ascii_digit
returns-then-not-is_ascii_digit c = let a = c.args in
    c.add.ensures ∙ ap (sum_of a.most) (add-zero (cents_of a.s) ∙ value_skips (cents_of a.s) a.b (sym c.is_ascii_digit.ensures.value ∙ c.if-not-is_ascii_digit.true))

pub returns-then-most-high : goal.returns-then-most-high
returns-then-most-high c = let a = c.args in
    sum_large a.most (value_from (cents_of a.s) (digits_of (a.b ∷ [])))
    (omega (arith, value_takes (cents_of a.s) a.b (sym c.is_ascii_digit.ensures.value ∙ c.if-not-is_ascii_digit.false)))

pub returns : goal.returns
returns c = let a = c.args in
    c.kept.ensures
    ∙ ap (sum_of a.most) (carried_digit a.s.high a.s.low (a.b - 48)
    ∙ value_takes (cents_of a.s) a.b (sym c.is_ascii_digit.ensures.value ∙ c.if-not-is_ascii_digit.false))
