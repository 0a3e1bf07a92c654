-- The sizes of the fields from `at` on make up the whole. Assumes nothing.
use Rattle.refusal.proofs.Basics.{◌≡◌, ◌≤◌, length, drop, sets}
use Rattle.text.specs.Split.{split}
use Rattle.question.specs.Question.{lengths_of}
use Rattle.question.proofs.put_sizes.Given as goal

abbrev pub invariant-loop-size : goal.invariant-loop-size
invariant-loop-size l =
    (l.at ≤ length l.s)
    × (sets l.out l.size-index (lengths_of (split 124 (drop l.at l.s))) ≡ sets l.initial.out 0 (lengths_of (split 124 l.s)))
