-- `text::count` meets its contract. The loop's invariant: the bytes `c` passed and those left make up the whole. Assumes nothing.
use Rattle.refusal.proofs.Basics.{◌≡◌, ◌≤◌, ◌+◌, drop}
use Rattle.text.specs.Bytes.{count_of}
use Rattle.text.proofs.count.Given as goal

abbrev pub invariant-loop-b : goal.invariant-loop-b
invariant-loop-b l = (l.n ≤ l.b-index) × (count_of l.c l.s ≡ l.n + count_of l.c (drop l.b-index l.s))
