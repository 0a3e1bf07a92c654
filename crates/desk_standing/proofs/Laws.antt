-- A slip written with standing text, told across the boundary. Assumes nothing.
use Rattle.refusal.proofs.Basics.{◌≡◌, ap, ◌∙◌, ℕ, List}
use Rattle.slip_writer.specs.Writer.{slip_text, left_by_slip}
use Rattle.standing_slip.specs.declared.StandingSlip.{StandingSlip}
use Rattle.standing_slip.specs.Filled.{filled_fields, WritesStanding}
use Rattle.desk_standing.specs.declared.StandingWritten.{StandingWritten}
use Rattle.desk_standing.specs.Standings.{written_told, WritesStandingTold}

pub standing_told_lem :
    (cents : ℕ) (sizes text farm association out : List ℕ) (r : StandingSlip) (t : StandingWritten) (after : List ℕ)
    → t ≡ written_told r → WritesStanding cents sizes text farm association out r after → WritesStandingTold cents sizes text farm association out t after
standing_told_lem cents sizes text farm association out r t after e w =
    record {
      answers = e ∙ ap written_told w.answers;
      leaves = w.leaves ∙ ap (λ (x : StandingSlip). left_by_slip x.written (slip_text cents (filled_fields sizes text farm association)) out) w.answers;
    }
