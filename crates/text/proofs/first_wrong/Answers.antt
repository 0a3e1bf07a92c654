-- `text::first_wrong` meets its contract. The loop's invariant: the answer is that of what is left from `i` on. Assumes nothing.
use Rattle.refusal.proofs.Basics.{sym, ◌∙◌, arith, not-true, not-false}
use Rattle.text.specs.Bytes.{first_bad}
use Rattle.text.proofs.Laws.{shifted_zero, scan_on, scan_stops, scan_ends}
use Rattle.text.proofs.first_wrong.Goals as goal

pub loop-i-init : goal.loop-i-init
loop-i-init c = shifted_zero (first_bad c.args.class c.args.s.now)

pub returns-then-not-permitted : goal.returns-then-not-permitted
returns-then-not-permitted c = let a = c.args in
    let l = c.loop-i in
    scan_stops a.class a.s.now l.i (omega arith) (sym c.permitted.ensures ∙ not-true _ c.if-not-permitted.true-raw) ∙ sym l.invariant

pub loop-i-preserved : goal.loop-i-preserved
loop-i-preserved c = let a = c.args in
    let l = c.loop-i in
    l.invariant ∙ scan_on a.class a.s.now l.i (omega arith) (sym c.permitted.ensures ∙ not-false _ c.if-not-permitted.false-raw)

pub returns : goal.returns
returns c = let a = c.args in
    let l = c.loop-i in
    scan_ends a.class a.s.now l.i (omega arith) (omega arith) ∙ sym l.invariant
