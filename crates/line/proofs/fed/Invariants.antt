-- `line::fed` meets its contract. The loop's invariant: what the whole leads to is what the rest from here leads to. Assumes nothing.
use Rattle.refusal.proofs.Basics.{◌≡◌, drop}
use Rattle.line.specs.Mirror.{feed, kept_of}
use Rattle.line.proofs.fed.Given as goal

abbrev pub invariant-loop-b : goal.invariant-loop-b
invariant-loop-b l = feed (kept_of l.initial.so_far l.initial.head l.initial.tail) l.s ≡ feed (kept_of l.so_far l.head l.tail) (drop l.b-index l.s)
