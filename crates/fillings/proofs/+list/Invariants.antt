-- The measure is the number of marks left. The loop's invariant: the fillings with a digit below `d` at the first mark are written, and `w` is
-- `t` but for the byte at that mark.
use Rattle.refusal.proofs.Basics.{◌≡◌, ℕ, take, set}
use Rattle.text.specs.Stands.{Stands}
use Rattle.fillings.specs.Mirror.{accepts}
use Rattle.fillings.proofs.Laws.{digits_below}
use Rattle.fillings.proofs.+list.Given as goal

abbrev pub decreases-list : goal.decreases-list
decreases-list l = l.left

abbrev pub invariant-loop-d : goal.invariant-loop-d
invariant-loop-d l = ((b : ℕ) → set l.w l.i b ≡ set l.t l.i b) × Stands l.initial.out l.at (digits_below (accepts l.aim) (take l.n l.t) l.left l.number l.d) l.next l.out
