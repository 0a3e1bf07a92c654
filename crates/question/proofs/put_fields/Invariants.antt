-- The fields of what is left make up the whole. Assumes nothing.
use Rattle.refusal.proofs.Basics.{◌≡◌, ◌≤◌, drop, sets}
use Rattle.text.specs.Split.{split, joined}
use Rattle.question.proofs.put_fields.Given as goal

abbrev pub invariant-loop-b : goal.invariant-loop-b
invariant-loop-b l =
    (l.at ≤ l.b-index)
    × (sets l.out l.at (joined (split 124 (drop l.b-index l.s))) ≡ sets l.initial.out 0 (joined (split 124 l.s)))
