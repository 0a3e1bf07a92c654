-- `codes::place_in` meets its contract. The loop's invariant: the answer is that of what is left from `i` on. Assumes nothing.
use Rattle.refusal.proofs.Basics.{sym, ◌∙◌, arith}
use Rattle.text.proofs.Laws.{shifted_zero}
use Rattle.codes.specs.Codes.{first_in}
use Rattle.codes.proofs.Laws.{search_on, search_stops, search_ends}
use Rattle.codes.proofs.place_in.Goals as goal

pub loop-i-init : goal.loop-i-init
loop-i-init c = shifted_zero (first_in c.args.code c.args.list.now)

pub returns-then-code-wide : goal.returns-then-code-wide
returns-then-code-wide c = let a = c.args in
    let l = c.loop-i in
    search_stops a.code a.list.now l.i (omega arith) (c.if-code-wide.true ∙ c.wide.ensures) ∙ sym l.invariant

pub loop-i-preserved : goal.loop-i-preserved
loop-i-preserved c = let a = c.args in
    let l = c.loop-i in
    l.invariant ∙ search_on a.code a.list.now l.i (omega arith) (λ e. c.if-code-wide.false (e ∙ sym c.wide.ensures))

pub returns : goal.returns
returns c = let a = c.args in
    let l = c.loop-i in
    search_ends a.code a.list.now l.i (omega arith) (omega arith) ∙ sym l.invariant
