-- What is promised of a slip written with standing text: with two empty sheets it is the slip of the fields that are given; a field is
-- the one that is given, or where that is empty the standing text; and no refusal of the writer is told of a field with standing text.
-- Assumes nothing.
use Rattle.refusal.proofs.Basics.{◌≡◌, refl, arith, ℕ, zero, suc, ◌+◌, ◌<◌, length, get_or, ne_eqb, List, [], ◌∷◌, Bool, true, false, cond, add-zero}
use Rattle.std.specs.Prelude.{Result, Err}
use Rattle.refusal.specs.declared.Refusal.{Refusal}
use Rattle.refusal.specs.Refusal.{none}
use Rattle.refusal.specs.declared.Refusal.TheVariants.{Size}
use Rattle.lent_fields.specs.Fields.{lent_whole}
use Rattle.slip_writer.specs.Writer.{write_answer}
use Rattle.sheet.specs.Sheet.{is_standing, bad_from, held_from}
use Rattle.text.specs.Split.{split}
use Rattle.standing_text.specs.declared.Sheet.{Sheet}
use Rattle.standing_text.specs.Standing.{sheets_judged, supplied_by, standing_of, bytes_from, standing_text}
use Rattle.standing_slip.specs.Filled.{eleven_of, filled_field, filled_from, filled_fields, standing_slip}

-- ---------------------------------------------------------------------------
-- Two empty sheets

-- they have no text
pub empty_sheets : (n : ℕ) → standing_text n [] [] ≡ []
empty_sheets n = go (is_standing n) refl
  where
    go : (t : Bool) → is_standing n ≡ t → standing_text n [] [] ≡ []
    go true e = unfold standing_of in unfold sheets_judged in unfold supplied_by in unfold bytes_from in unfold bad_from in unfold held_from in unfold split in rw e
    go false e = unfold standing_of in unfold bytes_from in rw e

-- so the fields are those that are given
fields_as_given : (n : ℕ) (gs : List (List ℕ)) → filled_from n gs [] [] ≡ gs
fields_as_given n [] = refl
fields_as_given n ([] ∷ gs) = rw (empty_sheets n, fields_as_given (n + 1) gs)
fields_as_given n ((b ∷ g) ∷ gs) = rw (ne_eqb (length (b ∷ g)) 0 (λ (z : length (b ∷ g) ≡ 0). omega (arith, z)), fields_as_given (n + 1) gs)

pub with_empty_sheets : (sizes text : List ℕ) → filled_fields sizes text [] [] ≡ eleven_of sizes text
with_empty_sheets sizes text = fields_as_given 4 (eleven_of sizes text)

-- and the answer is the writer's
pub slip_of_empty_sheets :
    (cents : ℕ) (sizes text : List ℕ) (room : ℕ)
    → standing_slip cents sizes text [] [] room ≡ cond (lent_whole 11 sizes text) (record { sheet = Sheet.Neither; written = write_answer cents (eleven_of sizes text) room }) (record { sheet = Sheet.Neither; written = Err (Size none) })
unfolding standing_slip sheets_judged bad_from split
slip_of_empty_sheets cents sizes text room = rw (with_empty_sheets sizes text)

-- ---------------------------------------------------------------------------
-- The fields

-- each is filled by its number
pub filled_at : (n : ℕ) (gs : List (List ℕ)) (farm association : List ℕ) (i : ℕ) → i < length gs → get_or (filled_from n gs farm association) i [] ≡ filled_field (n + i) (get_or gs i []) farm association
filled_at n [] farm association i h = absurd (omega arith)
filled_at n (g ∷ gs) farm association zero h = rw (add-zero n)
filled_at n (g ∷ gs) farm association (suc i) h = let z : n + suc i ≡ n + 1 + i = omega arith in rw z (filled_at (n + 1) gs farm association i (omega arith))
