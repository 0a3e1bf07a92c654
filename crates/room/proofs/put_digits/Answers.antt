-- `room::put_digits` meets its contract. The loop's invariant: the digits left make up the whole. Assumes nothing.
use Rattle.refusal.proofs.Basics.{◌≡◌, sym, ap, ◌∙◌, arith, ◌+◌, ◌-◌, ◌%◌, length, set, length-set, sets, set_out}
use Rattle.text.specs.Digits.{digits_text}
use Rattle.room.proofs.Laws.{digit_more, digits_all}
use Rattle.room.proofs.put_digits.Goals as goal
use Rattle.room.proofs.put_digits.Goals.{then-i-left, else-i-left}

pub loop-i-preserved : goal.loop-i-preserved
loop-i-preserved c = let l = c.loop-i in
    let a = c.args in
    let e : c.if-i-left.out ≡ set l.out (a.at + (l.i - 1)) (48 + l.rest % 10) =
    elim c.if-i-left.branch [ then-i-left w ↦ w.out-is | else-i-left w ↦ w.out-is ∙ sym (set_out l.out (a.at + (l.i - 1)) (48 + l.rest % 10) (omega arith)) ] in
    (ap length e ∙ length-set l.out (a.at + (l.i - 1)) (48 + l.rest % 10) ∙ l.invariant.0, rw e (digit_more l.out (sets a.out.now a.at (digits_text a.digits a.n)) a.at l.i l.rest (omega arith) l.invariant.1))

pub returns : goal.returns
returns c = let l = c.loop-i in
    let a = c.args in
    digits_all l.out (sets a.out.now a.at (digits_text a.digits a.n)) a.at l.i l.rest (omega arith) l.invariant.1
