-- `room::put` meets its contract. The loop's invariant: what is left of the text makes up the whole. Assumes nothing.
use Rattle.refusal.proofs.Basics.{◌≡◌, drop, sets}
use Rattle.room.proofs.put.Given as goal

abbrev pub invariant-loop-b : goal.invariant-loop-b
invariant-loop-b l = sets l.out l.next (drop l.b-index l.s) ≡ sets l.initial.out l.at l.s
