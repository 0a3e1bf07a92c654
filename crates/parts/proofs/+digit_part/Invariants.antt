-- The measures of the two readers: the bytes that are left. Assumes nothing.
use Rattle.refusal.proofs.Basics.{◌+◌, length}
use Rattle.parts.proofs.+digit_part.Given as goal

abbrev pub decreases-digit : goal.decreases-digit
decreases-digit l = length l.s.now + length l.s.now

abbrev pub decreases-part : goal.decreases-part
decreases-part l = length l.s.now + length l.s.now + 1
