-- `text::first_wrong` meets its contract. The loop's invariant: the answer is that of what is left from `i` on. Assumes nothing.
use Rattle.refusal.proofs.Basics.{◌≡◌, drop}
use Rattle.text.specs.Bytes.{first_bad}
use Rattle.text.proofs.Laws.{shifted}
use Rattle.text.proofs.first_wrong.Given as goal

abbrev pub invariant-loop-i : goal.invariant-loop-i
invariant-loop-i l = first_bad l.class l.s ≡ shifted l.i (first_bad l.class (drop l.i l.s))
