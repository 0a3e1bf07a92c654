-- Document 02, W2: what is claimed of the calls of standing text.
use Rattle.std.specs.Prelude.{ℕ, ◌≡◌, true, false, cond, List, [], eqb, take, drop, Result, Err}
use Rattle.refusal.specs.Refusal.{none}
use Rattle.refusal.specs.declared.Refusal.{Refusal}
use Rattle.refusal.specs.declared.Refusal.TheVariants.{Size, Sheet, Field}
use Rattle.lent_fields.specs.Fields.{lent_whole}
use Rattle.sheet.specs.Sheet.{is_standing}
use Rattle.sheet.specs.Claims.{FieldLine, RightLines, sheet_text, FirstMalformed}
use Rattle.boundary.specs.declared.Told.{Told}
use Rattle.boundary.specs.Told.{refusal}
use Rattle.desk_standing.specs.declared.StandingTold.{StandingTold}

-- a right sheet: one that is written from fields, "numbers 4 to 9, 13 and 14 .. ascending, each at most once, each text obeying its field's
-- rule in 01"
abbrev pub RightSheet : List ℕ → Type 0
RightSheet s = (ls : List FieldLine) × ((RightLines 0 ls) × (s ≡ sheet_text ls))

-- the sheet of a number: 1 the farm's, 2 the association's
abbrev pub sheet_of : ℕ → List ℕ → List ℕ → List ℕ
sheet_of k farm association = cond (eqb k 1) farm (cond (eqb k 2) association [])

-- the text that is told, "as the part of that sheet where it stands"
abbrev pub told_text : StandingTold → List ℕ → List ℕ → List ℕ
told_text r farm association = take r.length (drop r.start (sheet_of r.sheet farm association))

-- 20 at line k of a sheet
abbrev pub malformed_line : ℕ → Told
malformed_line k = refusal (Sheet (record { line = k; field = 0; byte = 0 }))

-- "20, sheet line malformed, with the first such line, farm's sheet judged first"; and whose line it is
pub data SheetRefused (farm association : List ℕ) (t : Told) (sheet : ℕ) : Type 0 where
  farms : (k : ℕ) → FirstMalformed farm k → t ≡ malformed_line k → sheet ≡ 1 → SheetRefused farm association t sheet
  associations : RightSheet farm → (k : ℕ) → FirstMalformed association k → t ≡ malformed_line k → sheet ≡ 2 → SheetRefused farm association t sheet

-- "28, a field number other than these, first"
pub data StandingRefused (n : ℕ) (farm association : List ℕ) (t : Told) (sheet : ℕ) : Type 0 where
  field : is_standing n ≡ false → t ≡ refusal (Field none) → sheet ≡ 0 → StandingRefused n farm association t sheet
  line : is_standing n ≡ true → SheetRefused farm association t sheet → StandingRefused n farm association t sheet

-- a slip with standing text: 1 where the sizes are not the text's, 20 of the sheets, then the writer's refusal
pub data SlipStandingRefused (sizes text farm association : List ℕ) (w : Result ℕ Refusal) (t : Told) (sheet : ℕ) : Type 0 where
  sizing : lent_whole 11 sizes text ≡ false → t ≡ refusal (Size none) → sheet ≡ 0 → SlipStandingRefused sizes text farm association w t sheet
  sheets : lent_whole 11 sizes text ≡ true → SheetRefused farm association t sheet → SlipStandingRefused sizes text farm association w t sheet
  writer :
      lent_whole 11 sizes text ≡ true → RightSheet farm → RightSheet association → (r : Refusal) → w ≡ Err r → t ≡ refusal r → sheet ≡ 0
      → SlipStandingRefused sizes text farm association w t sheet
