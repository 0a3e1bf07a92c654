-- The fields of a slip by what reading both sheets found, as the code has them.
use Rattle.std.specs.Prelude.{ℕ, cond, ◌&&◌, List, eqb, length}
use Rattle.lent_fields.specs.Fields.{given_of}
use Rattle.slip_given.specs.Given.{eleven}
use Rattle.sheet.specs.declared.Lines.{Lines}
use Rattle.sheet.specs.Sheet.{is_standing}
use Rattle.sheet.specs.Mirror.{held_in}
use Rattle.standing_text.specs.Standing.{supplied_by, standing_bytes}

-- one field
unfoldable pub field_by : ℕ → List ℕ → Lines → Lines → List ℕ → List ℕ → List ℕ
field_by n given f a farm association =
    cond (eqb (length given) 0 && is_standing n) (standing_bytes (supplied_by (held_in f n) (held_in a n)) farm association) given

-- the fields 4 to 14
abbrev pub fields_by : List ℕ → List ℕ → Lines → Lines → List ℕ → List ℕ → List (List ℕ)
fields_by sizes text f a farm association =
    eleven (by 4 0) (by 5 1) (by 6 2) (by 7 3) (by 8 4) (by 9 5) (by 10 6) (by 11 7) (by 12 8) (by 13 9) (by 14 10)
  where
    by : ℕ → ℕ → List ℕ
    by n k = field_by n (given_of sizes text k) f a farm association
