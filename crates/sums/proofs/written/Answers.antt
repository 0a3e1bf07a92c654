-- `sums::written` meets its contract. The loop's invariant: the sum is that of the digits up to here. Assumes nothing.
use Rattle.refusal.proofs.Basics.{sym, ap, ◌∙◌, take, get_or, [], ◌∷◌}
use Rattle.text.specs.Digits.{digits_of, value_from}
use Rattle.sums.specs.declared.Sum.{Sum}
use Rattle.sums.specs.Sums.{cents_of, sum_of, number_of}
use Rattle.text.proofs.Values.{value_to}
use Rattle.sums.proofs.Laws.{no_cents_lem, written_on}
use Rattle.sums.proofs.written.Goals as goal

pub loop-b-init : goal.loop-b-init
unfolding value_from digits_of
loop-b-init c = c.nothing-sum.ensures ∙ no_cents_lem c.args.most

pub loop-b-preserved : goal.loop-b-preserved
loop-b-preserved c = let a = c.args in
    let s = a.s.now in
    let l = c.loop-b in
    let ds = digits_of (get_or s l.b-index 0 ∷ []) in
    c.with_digit-sum.ensures
    ∙ ap (λ (t : Sum). sum_of a.most (value_from (cents_of t) ds)) l.invariant
    ∙ written_on a.most (number_of (take l.b-index s)) ds
    ∙ ap (sum_of a.most) (sym (value_to 0 s l.b-index c.loop-b-test.true))
