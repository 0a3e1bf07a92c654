-- What the calls of slips tell at the boundary, and what a call that writes answers and leaves.
use Rattle.std.specs.Prelude.{ℕ, ◌≡◌, cond, List, length}
use Rattle.refusal.specs.declared.Refusal.TheVariants.{Size}
use Rattle.refusal.specs.Refusal.{none}
use Rattle.slip_writer.specs.Writer as slip
use Rattle.lent_fields.specs.Fields.{lent_whole}
use Rattle.standing_slip.specs.Filled.{eleven_of}
use Rattle.boundary.specs.declared.Valued.{Valued}
use Rattle.boundary.specs.Told.{refusal, value_told, valued}

-- a slip: only where the sizes of its eleven fields are the text's
pub record WritesSlipGiven (cents : ℕ) (sizes text out : List ℕ) (r : Valued) (after : List ℕ) : Type 0 where
  pub answers : r ≡ cond (lent_whole 11 sizes text) (value_told (slip.write_answer cents (eleven_of sizes text) (length out))) (valued (refusal (Size none)) 0)
  pub leaves :
      after ≡ cond (lent_whole 11 sizes text) (slip.left_by_slip (slip.write_answer cents (eleven_of sizes text) (length out)) (slip.slip_text cents (eleven_of sizes text)) out) out
