-- `codes::place_in` meets its contract. The loop's invariant: the answer is that of what is left from `i` on. Assumes nothing.
use Rattle.refusal.proofs.Basics.{◌≡◌, drop}
use Rattle.text.proofs.Laws.{shifted}
use Rattle.codes.specs.Codes.{first_in}
use Rattle.codes.proofs.place_in.Given as goal

abbrev pub invariant-loop-i : goal.invariant-loop-i
invariant-loop-i l = first_in l.code l.list ≡ shifted l.i (first_in l.code (drop l.i l.list))
