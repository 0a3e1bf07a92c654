-- Document 01, "The wage file": what a whole lent file is answered.
use Rattle.std.specs.Prelude.{ℕ, List, Result}
use Rattle.refusal.specs.declared.Refusal.{Refusal}
use Rattle.condition.specs.declared.Counts.{Counts}
use Rattle.wage_line.specs.Pieces.{pieces}
use Rattle.condition.specs.Record.{begun, ended}
use Rattle.judge.specs.Judge.{steps}

-- "the answer of its 1,002-byte pieces, one by one"
unfoldable pub file_answer : ℕ → List ℕ → Result Counts Refusal
file_answer day s = ended (steps (begun day) (pieces s))
