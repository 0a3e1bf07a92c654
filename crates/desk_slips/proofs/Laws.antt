-- A slip written, told across the boundary.
-- Assumes nothing.
use Rattle.refusal.proofs.Basics.{◌≡◌, refl, ap, ◌∙◌, ℕ, length, List, [], Bool, true, false, cond}
use Rattle.std.specs.Prelude.{Result, Err}
use Rattle.refusal.specs.declared.Refusal.{Refusal}
use Rattle.refusal.specs.Refusal.{none}
use Rattle.refusal.specs.declared.Refusal.TheVariants.{Size}
use Rattle.slip_writer.specs.Writer as slip
use Rattle.lent_fields.specs.Fields.{lent_whole}
use Rattle.standing_text.specs.declared.Sheet.{Sheet}
use Rattle.standing_slip.specs.declared.StandingSlip.{StandingSlip}
use Rattle.standing_slip.specs.Filled.{eleven_of, WritesStanding}
use Rattle.standing_slip.proofs.Theorems.{with_empty_sheets, slip_of_empty_sheets}
use Rattle.boundary.specs.declared.Valued.{Valued}
use Rattle.boundary.specs.Told.{refusal, value_told, valued}
use Rattle.desk_slips.specs.Slips.{WritesSlipGiven}

-- a slip written from two empty sheets is the writer's slip of the fields that are given
pub slip_told :
    (cents : ℕ) (sizes text out : List ℕ) (r : StandingSlip) (t : Valued) (after : List ℕ)
    → t ≡ value_told r.written → WritesStanding cents sizes text [] [] out r after → WritesSlipGiven cents sizes text out t after
slip_told cents sizes text out r t after e w =
    let f = eleven_of sizes text in
    let is : r ≡ answered (lent_whole 11 sizes text) = w.answers ∙ slip_of_empty_sheets cents sizes text (length out) in
    record {
      answers = e ∙ (ap (λ (x : StandingSlip). value_told x.written) is ∙ told (lent_whole 11 sizes text));
      leaves = w.leaves ∙ (rw (with_empty_sheets sizes text) (ap (λ (x : StandingSlip). slip.left_by_slip x.written (slip.slip_text cents f) out) is ∙ left (lent_whole 11 sizes text)));
    }
  where
    answered : Bool → StandingSlip
    answered b = cond b (record { sheet = Sheet.Neither; written = slip.write_answer cents (eleven_of sizes text) (length out) }) (record { sheet = Sheet.Neither; written = Err (Size none) })

    told : (b : Bool) → value_told (answered b).written ≡ cond b (value_told (slip.write_answer cents (eleven_of sizes text) (length out))) (valued (refusal (Size none)) 0)
    told true = refl
    told false = unfold value_told in refl

    left : (b : Bool) → slip.left_by_slip (answered b).written (slip.slip_text cents (eleven_of sizes text)) out ≡ cond b (slip.left_by_slip (slip.write_answer cents (eleven_of sizes text) (length out)) (slip.slip_text cents (eleven_of sizes text)) out) out
    left true = refl
    left false = refl
