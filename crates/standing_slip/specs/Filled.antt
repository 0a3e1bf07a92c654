-- Document 02, W2: a slip written with standing text, what the call answers and what it leaves in the lent room.
use Rattle.std.specs.Prelude.{ℕ, ◌+◌, ◌≡◌, cond, List, [], ◌∷◌, eqb, length, Result, Err, Ok}
use Rattle.refusal.specs.Refusal.{Answer, none}
use Rattle.refusal.specs.declared.Refusal.{Refusal}
use Rattle.refusal.specs.declared.Refusal.TheVariants.{Size}
use Rattle.lent_fields.specs.Fields.{given_of, lent_whole}
use Rattle.slip_given.specs.Given.{eleven}
use Rattle.slip_writer.specs.Writer.{slip_text, write_answer, left_by_slip}
use Rattle.standing_text.specs.declared.Sheet.{Sheet}
use Rattle.standing_text.specs.declared.Sheet.TheVariants.{Neither}
use Rattle.standing_text.specs.Standing.{both_judged, standing_text}
use Rattle.standing_slip.specs.declared.StandingSlip.{StandingSlip}

-- ---------------------------------------------------------------------------
-- The fields

-- the fields 4 to 14 of a slip, one behind the other in a text; one that is not there is empty
abbrev pub eleven_of : List ℕ → List ℕ → List (List ℕ)
eleven_of sizes text =
    eleven (given_of sizes text 0) (given_of sizes text 1) (given_of sizes text 2) (given_of sizes text 3) (given_of sizes text 4) (given_of sizes text 5)
    (given_of sizes text 6) (given_of sizes text 7) (given_of sizes text 8) (given_of sizes text 9) (given_of sizes text 10)

-- field n: as it is given, or where that is empty what the sheets answer for it; 10, 11 and 12 have no standing text
abbrev pub filled_field : ℕ → List ℕ → List ℕ → List ℕ → List ℕ
filled_field n given farm association = cond (eqb (length given) 0) (standing_text n farm association) given

-- some fields, the first of them field n
abbrev pub filled_from : ℕ → List (List ℕ) → List ℕ → List ℕ → List (List ℕ)
filled_from n [] farm association = []
filled_from n (g ∷ gs) farm association = filled_field n g farm association ∷ filled_from (n + 1) gs farm association

-- the fields 4 to 14
abbrev pub filled_fields : List ℕ → List ℕ → List ℕ → List ℕ → List (List ℕ)
filled_fields sizes text farm association = filled_from 4 (eleven_of sizes text) farm association

-- ---------------------------------------------------------------------------
-- The call

-- "20 before the writer's"
abbrev pub slip_after_sheets : Sheet → Answer → Result ℕ Refusal → StandingSlip
slip_after_sheets sheet (Ok u) w = record { sheet = Neither; written = w }
slip_after_sheets sheet (Err r) w = record { sheet = sheet; written = Err r }

-- 1 where the sizes are not the text's, then the sheets, then the writer's answer
unfoldable pub standing_slip : ℕ → List ℕ → List ℕ → List ℕ → List ℕ → ℕ → StandingSlip
standing_slip cents sizes text farm association room =
    cond (lent_whole 11 sizes text)
    (slip_after_sheets (both_judged farm association).sheet (both_judged farm association).answer (write_answer cents (filled_fields sizes text farm association) room))
    (record { sheet = Neither; written = Err (Size none) })

-- what the call answers, and what it leaves in the lent room
pub record WritesStanding (cents : ℕ) (sizes text farm association out : List ℕ) (r : StandingSlip) (after : List ℕ) : Type 0 where
  pub answers : r ≡ standing_slip cents sizes text farm association (length out)
  pub leaves : after ≡ left_by_slip r.written (slip_text cents (filled_fields sizes text farm association)) out
