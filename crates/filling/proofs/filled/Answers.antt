-- `filling::filled` meets its contract. The loop's invariant: the bytes from `i` on are written. Assumes nothing.
use Rattle.refusal.proofs.Basics.{refl, arith, ◌-◌, length-set}
use Rattle.filling.proofs.Laws.{from_end, from_mark, from_byte}
use Rattle.filling.proofs.filled.Goals as goal

pub loop-i-init : goal.loop-i-init
loop-i-init c = let a = c.args in (refl, from_end a.s.now a.out.now a.number)

pub loop-i-preserved-then-s-i-eq63 : goal.loop-i-preserved-then-s-i-eq63
loop-i-preserved-then-s-i-eq63 c = let l = c.loop-i in
    let a = c.args in
    (simp length-set l.invariant.0, from_mark a.s.now a.out.now a.number l.i (l.i - 1) l.k l.out (omega arith) (omega arith) c.if-n-out.false l.invariant.1 c.if-s-i-eq63.true)

pub loop-i-preserved : goal.loop-i-preserved
loop-i-preserved c = let l = c.loop-i in
    let a = c.args in
    (simp length-set l.invariant.0, from_byte a.s.now a.out.now a.number l.i (l.i - 1) l.k l.out (omega arith) (omega arith) c.if-n-out.false l.invariant.1 c.if-s-i-eq63.false)
