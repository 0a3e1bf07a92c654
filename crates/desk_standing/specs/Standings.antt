-- What the calls of standing text tell at the boundary, and what the one that writes answers and leaves.
use Rattle.std.specs.Prelude.{ℕ, ◌≡◌, List, length}
use Rattle.slip_writer.specs.Writer.{slip_text, left_by_slip}
use Rattle.standing_text.specs.declared.Sheet.{Sheet}
use Rattle.standing_text.specs.declared.Sheet.TheVariants.{Neither, Farm, Association}
use Rattle.standing_text.specs.declared.Standing.{Standing}
use Rattle.standing_slip.specs.declared.StandingSlip.{StandingSlip}
use Rattle.standing_slip.specs.Filled.{standing_slip, filled_fields}
use Rattle.boundary.specs.Told.{told_of, value_told}
use Rattle.desk_standing.specs.declared.StandingTold.{StandingTold}
use Rattle.desk_standing.specs.declared.StandingWritten.{StandingWritten}

-- whose sheet
unfoldable pub sheet_number : Sheet → ℕ
sheet_number Neither = 0
sheet_number Farm = 1
sheet_number Association = 2

-- a standing text
unfoldable pub standing_told : Standing → StandingTold
standing_told s = record { told = told_of s.answer; sheet = sheet_number s.sheet; start = s.part.start; length = s.part.length }

-- a slip written with standing text
unfoldable pub written_told : StandingSlip → StandingWritten
written_told s = record { told = (value_told s.written).told; value = (value_told s.written).value; sheet = sheet_number s.sheet }

-- what the call answers, and what it leaves in the lent room
pub record WritesStandingTold (cents : ℕ) (sizes text farm association out : List ℕ) (r : StandingWritten) (after : List ℕ) : Type 0 where
  pub answers : r ≡ written_told (standing_slip cents sizes text farm association (length out))
  pub leaves :
      after ≡ left_by_slip (standing_slip cents sizes text farm association (length out)).written (slip_text cents (filled_fields sizes text farm association)) out
