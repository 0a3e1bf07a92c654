-- `slip_printed::put_fields` meets its contract. The loop's invariant: what puts the lines that are left, puts all. Assumes nothing.
use Rattle.refusal.proofs.Basics.{◌∙◌, arith}
use Rattle.printed.proofs.Laws.{puts_then, puts_none, puts_within, puts_length}
use Rattle.slip_printed.proofs.Laws.{lines_on, lines_end}
use Rattle.slip_printed.proofs.put_fields.Goals as goal

pub loop-n-preserved : goal.loop-n-preserved
loop-n-preserved c = let a = c.args in
    let l = c.loop-n in
    let p = c.put_field-next.ensures in
    let k = puts_length p in (
      k ∙ l.invariant.0,
      rw k (puts_within p),
      λ r after q. l.invariant.2 r after
          (rw (lines_on a.s.now l.n (omega arith), ← c.piece_text.ensures) (puts_then p q)),
    )

pub returns : goal.returns
returns c = let a = c.args in
    let l = c.loop-n in
    l.invariant.2 l.next l.out (rw (lines_end a.s.now l.n (omega arith)) (puts_none l.out l.next l.invariant.1))
