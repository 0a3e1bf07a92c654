-- `wage_file::lines`: the record is the one that the lines that are left lead to, and each turn leaves fewer bytes. Assumes nothing.
use Rattle.refusal.proofs.Basics.{◌≡◌, length}
use Rattle.std.specs.Slice.Iter.{chunks_rest, chunks_size}
use Rattle.wage_line.specs.Pieces.{pieces}
use Rattle.judge.specs.Judge.{steps}
use Rattle.wage_file.proofs.lines.Given as goal

abbrev pub invariant-lines : goal.invariant-lines
invariant-lines l = (chunks_size l.pieces ≡ 1002) × (steps l.initial.j (pieces l.s) ≡ steps l.j (pieces (chunks_rest l.pieces)))

abbrev pub decreases-lines : goal.decreases-lines
decreases-lines l = length (chunks_rest l.pieces)
