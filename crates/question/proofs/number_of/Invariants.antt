-- The verbs passed and the place among those from `k` on make up the whole. Assumes nothing.
use Rattle.refusal.proofs.Basics.{◌≡◌, ◌+◌, drop}
use Rattle.text.specs.Split.{split}
use Rattle.question.specs.Question.{place_among}
use Rattle.question.proofs.number_of.Given as goal

abbrev pub invariant-loop-k : goal.invariant-loop-k
invariant-loop-k l = place_among l.verb (split 124 l.verbs) ≡ l.k + place_among l.verb (drop l.k (split 124 l.verbs))
