-- A wage line written, told across the boundary.
-- Assumes nothing.
use Rattle.refusal.proofs.Basics.{◌≡◌, ap, ◌∙◌, ℕ, List}
use Rattle.refusal.specs.Refusal.{Answer}
use Rattle.line_room.specs.LineRoom.{Writes}
use Rattle.boundary.specs.Told.{told_of}
use Rattle.boundary.specs.declared.Told.{Told}
use Rattle.desk_writers.specs.Writes.{WritesLine}

-- a wage line
pub line_told :
    (a : Answer) (line out : List ℕ) (r : Answer) (t : Told) (after : List ℕ)
    → t ≡ told_of r → Writes a line out r after → WritesLine a line out t after
line_told a line out r t after e w = record { answers = e ∙ ap told_of w.answers; leaves = w.leaves }
