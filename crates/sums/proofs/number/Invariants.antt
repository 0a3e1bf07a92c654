-- `sums::number` meets its contract. The loop's invariant: `v` is the number of the bytes up to here. Assumes nothing.
use Rattle.refusal.proofs.Basics.{◌≡◌, ◌<◌, ◌^◌, length, map}
use Rattle.sums.specs.Sums.{number_of}
use Rattle.sums.proofs.number.Given as goal

abbrev pub invariant-loop-b : goal.invariant-loop-b
invariant-loop-b l = (l.v < 10 ^ length l.yielded) × (l.v ≡ number_of (map (λ b. b.now) l.yielded))
