-- `text::trim` meets its contract. The loop's invariant: what is left has the same text without its last blanks. Assumes nothing.
use Rattle.refusal.proofs.Basics.{◌≡◌, length}
use Rattle.text.specs.Bytes.{trimmed}
use Rattle.text.proofs.trim.Given as goal

abbrev pub invariant-loop-last : goal.invariant-loop-last
invariant-loop-last l = trimmed l.s ≡ trimmed l.left

abbrev pub decreases-loop-last : goal.decreases-loop-last
decreases-loop-last l = length l.left
