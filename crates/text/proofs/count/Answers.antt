-- `text::count` meets its contract: a byte `c` is counted, another is not. Assumes nothing.
use Rattle.refusal.proofs.Basics.{sym, ◌∙◌, arith}
use Rattle.text.proofs.Laws.{count_more, count_same, count_end}
use Rattle.text.proofs.count.Goals.{then-b-c, else-b-c}
use Rattle.text.proofs.count.Goals as goal

pub loop-b-preserved : goal.loop-b-preserved
loop-b-preserved c =
    let s = c.args.s.now in
    let l = c.loop-b in
    elim c.if-b-c.branch [
      | then-b-c w ↦ rw w.n-is (omega arith, l.invariant.1 ∙ count_more c.args.c s l.b-index l.n (omega arith) w.if-b-c.true)
      | else-b-c w ↦ rw w.n-is (omega arith, l.invariant.1 ∙ count_same c.args.c s l.b-index l.n (omega arith) w.if-b-c.false)
    ]

pub returns : goal.returns
returns c = let l = c.loop-b in count_end c.args.c c.args.s.now l.b-index l.n (omega arith) (omega arith) ∙ sym l.invariant.1
