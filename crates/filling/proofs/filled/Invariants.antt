-- `filling::filled` meets its contract. The loop's invariant: the bytes from `i` on are written. Assumes nothing.
use Rattle.refusal.proofs.Basics.{◌≡◌, length}
use Rattle.filling.proofs.Laws.{WrittenFrom}
use Rattle.filling.proofs.filled.Given as goal

abbrev pub invariant-loop-i : goal.invariant-loop-i
invariant-loop-i l = (length l.out ≡ length l.initial.out) × WrittenFrom l.s l.initial.out l.number l.i l.k l.out
