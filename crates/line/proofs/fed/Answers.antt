-- `line::fed` meets its contract. The loop's invariant: what the whole leads to is what the rest from here leads to. Assumes nothing.
use Rattle.refusal.proofs.Basics.{sym, ◌∙◌, arith, drop}
use Rattle.line.specs.Mirror.{kept_of}
use Rattle.line.proofs.Laws.{feed_on, feed_ended, feed_ends, whole}
use Rattle.line.proofs.fed.Goals as goal

pub loop-b-preserved : goal.loop-b-preserved
loop-b-preserved c =
    let l = c.loop-b in
    l.invariant ∙ feed_on (kept_of l.so_far l.head l.tail) c.args.s.now l.b-index _ (omega arith) c.took_byte-so_far.ensures

pub returns-then-so_far : goal.returns-then-so_far
returns-then-so_far c =
    let l = c.loop-b in
    let w = whole (feed_ended (kept_of l.so_far l.head l.tail) (drop l.b-index c.args.s.now) c.if-so_far.true ∙ sym l.invariant) in
    record { value = w.0; head_after = w.1.0; tail_after = w.1.1 }

pub returns : goal.returns
returns c =
    let l = c.loop-b in
    let w = whole (feed_ends (kept_of l.so_far l.head l.tail) c.args.s.now l.b-index (omega arith) (omega arith) ∙ sym l.invariant) in
    record { value = w.0; head_after = w.1.0; tail_after = w.1.1 }
