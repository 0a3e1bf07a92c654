-- What the judge's calls tell at the boundary, and where a place of a wage line stands.
use Rattle.std.specs.Prelude.{ℕ, List, Result, Ok, Err}
use Rattle.refusal.specs.declared.Refusal.{Refusal}
use Rattle.wage_places.specs.declared.LineType.{LineType}
use Rattle.condition.specs.declared.Counts.{Counts}
use Rattle.text.specs.declared.Part.{Part}
use Rattle.wage_places.specs.Places.{spot_of}
use Rattle.wage_line.specs.Line.{typed_of}
use Rattle.sums.specs.Sums.{no_cents}
use Rattle.boundary.specs.Told.{accepted, refusal}
use Rattle.desk_judge.specs.declared.Ended.{Ended}

-- what the end of a wage file tells
unfoldable pub ended_of : Result Counts Refusal → Ended
ended_of (Ok c) = record { told = accepted; lines = c.lines; groups = c.tally.groups; orders = c.tally.orders; total = c.tally.total }
ended_of (Err r) = record { told = refusal r; lines = 0; groups = 0; orders = 0; total = no_cents }

-- no part
abbrev pub no_part : Part
no_part = record { start = 0; length = 0 }

abbrev pub part_in : ℕ → Result LineType Refusal → Part
part_in n (Ok t) = record { start = (spot_of t n).start; length = (spot_of t n).size }
part_in n (Err r) = no_part

-- a named place of a wage line
unfoldable pub place_part : List ℕ → ℕ → Part
place_part s n = part_in n (typed_of s)
