-- `wage_places::find_in` meets its contract. The loop's invariant: the place is the one among what is left from `p` on. Assumes nothing.
use Rattle.refusal.proofs.Basics.{◌≡◌, drop}
use Rattle.wage_places.specs.Places.{spot_in}
use Rattle.wage_places.proofs.find_in.Given as goal

abbrev pub invariant-loop-p : goal.invariant-loop-p
invariant-loop-p l = spot_in l.field l.places ≡ spot_in l.field (drop l.p-index l.places)
