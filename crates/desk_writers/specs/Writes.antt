-- What a call that writes a wage line answers and leaves.
use Rattle.std.specs.Prelude.{ℕ, ◌≡◌, List}
use Rattle.refusal.specs.Refusal.{Answer}
use Rattle.line_room.specs.LineRoom as wage
use Rattle.boundary.specs.Told.{told_of}
use Rattle.boundary.specs.declared.Told.{Told}

-- a wage line
pub record WritesLine (a : Answer) (line out : List ℕ) (r : Told) (after : List ℕ) : Type 0 where
  pub answers : r ≡ told_of a
  pub leaves : after ≡ wage.left_by_line a line out
