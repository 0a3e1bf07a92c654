-- `slip_handed::piece`: the piece is the one that is left to count, of what is left from `at` on. Assumes nothing.
use Rattle.refusal.proofs.Basics.{◌≡◌, ◌-◌, ◌≤◌, length, drop}
use Rattle.text.specs.Split.{split}
use Rattle.slip_handed.specs.Handed.{piece_part}
use Rattle.slip_handed.proofs.Laws.{behind}
use Rattle.slip_handed.proofs.piece.Given as goal

abbrev pub invariant-loop : goal.invariant-loop
invariant-loop l = (l.at ≤ length l.s) × (piece_part l.k (split 10 l.s) ≡ behind l.at (piece_part (l.k - l.counter) (split 10 (drop l.at l.s))))
