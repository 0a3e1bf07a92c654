-- `printed::put_number` meets its contract. Assumes nothing.
use Rattle.refusal.proofs.Basics.{sym, ap, ◌∙◌, arith, ℕ, ◌+◌, length, length-sets}
use Rattle.room.proofs.Laws.{sets_past}
use Rattle.printed.specs.Printed.{decimal}
use Rattle.printed.proofs.Laws.{ends_short, ends_whole, decimal_length, put_width}
use Rattle.printed.proofs.put_number.Goals as goal

pub returns-then-out-at : goal.returns-then-out-at
returns-then-out-at c = let a = c.args in
    record { answers = ends_short _ a.at (decimal a.n) (omega arith); leaves = sym (sets_past _ a.at (decimal a.n) (omega arith)) }

pub returns-then-left-digits : goal.returns-then-left-digits
returns-then-left-digits c = let a = c.args in
    let w = decimal_length a.n ∙ sym c.width-digits.ensures in
    let e = put_width a.out.now a.at a.n c.width-digits.ensures c.put_digits.ensures in
    let l = ap length e ∙ length-sets a.out.now a.at (decimal a.n) in
    record { answers = l ∙ ends_short _ a.at (decimal a.n) (omega arith); leaves = e }

pub returns : goal.returns
returns c = let a = c.args in
    let w = decimal_length a.n ∙ sym c.width-digits.ensures in
    let e = put_width a.out.now a.at a.n c.width-digits.ensures c.put_digits.ensures in
    record { answers = ap (λ (k : ℕ). a.at + k) (sym w) ∙ ends_whole _ a.at (decimal a.n) (omega arith); leaves = e }
