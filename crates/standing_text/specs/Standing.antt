-- Document 02, W2: standing text for slips, from the farm's sheet and the association's.
use Rattle.std.specs.Prelude.{ℕ, cond, List, [], eqb, take, drop, Option, Some, None, Ok, Err}
use Rattle.refusal.specs.Refusal.{Answer, none}
use Rattle.refusal.specs.declared.Refusal.TheVariants as refusal
use Rattle.text.specs.declared.Part.{Part}
use Rattle.sheet.specs.Sheet.{is_standing, bad_line, line_held}
use Rattle.standing_text.specs.declared.Sheet.{Sheet}
use Rattle.standing_text.specs.declared.Sheet.TheVariants.{Neither, Farm, Association}
use Rattle.standing_text.specs.declared.Judged.{Judged}
use Rattle.standing_text.specs.declared.Standing.{Standing}

-- ---------------------------------------------------------------------------
-- Both sheets

-- "20, sheet line malformed, with the first such line": of that sheet
abbrev pub malformed_in : Sheet → ℕ → Judged
malformed_in sheet line = record { sheet = sheet; answer = Err (refusal.Sheet (record { line = line; field = 0; byte = 0 })) }

-- "farm's sheet judged first": by the first malformed line of each, 0 for none
unfoldable pub sheets_judged : ℕ → ℕ → Judged
sheets_judged farm association =
    cond (eqb farm 0)
    (cond (eqb association 0) (record { sheet = Neither; answer = Ok tt }) (malformed_in Association association))
    (malformed_in Farm farm)

-- ---------------------------------------------------------------------------
-- The text of a field

abbrev pub no_part : Part
no_part = record { start = 0; length = 0 }

-- "the farm's text if its sheet has that line, even if empty, otherwise the association's"; "A line neither has is an empty field"
unfoldable pub supplied_by : Option Part → Option Part → Standing
supplied_by (Some p) association = record { sheet = Farm; answer = Ok tt; part = p }
supplied_by None (Some p) = record { sheet = Association; answer = Ok tt; part = p }
supplied_by None None = record { sheet = Neither; answer = Ok tt; part = no_part }

-- what both sheets judged leave of an answer: a refusal tells no part
abbrev pub after_sheets : Sheet → Answer → Standing → Standing
after_sheets sheet (Ok u) rest = rest
after_sheets sheet (Err r) rest = record { sheet = sheet; answer = Err r; part = no_part }

-- both sheets, "farm's sheet judged first"
abbrev pub both_judged : List ℕ → List ℕ → Judged
both_judged farm association = sheets_judged (bad_line farm) (bad_line association)

-- "28, a field number other than these, first"
unfoldable pub standing_of : ℕ → List ℕ → List ℕ → Standing
standing_of n farm association =
    cond (is_standing n)
    (after_sheets (both_judged farm association).sheet (both_judged farm association).answer (supplied_by (line_held n farm) (line_held n association)))
    (record { sheet = Neither; answer = Err (refusal.Field none); part = no_part })

-- the bytes of a part
abbrev pub bytes_of : Part → List ℕ → List ℕ
bytes_of p s = take p.length (drop p.start s)

-- "as the part of that sheet where it stands"
unfoldable pub bytes_from : Sheet → Part → List ℕ → List ℕ → List ℕ
bytes_from Neither p farm association = []
bytes_from Farm p farm association = bytes_of p farm
bytes_from Association p farm association = bytes_of p association

abbrev pub standing_bytes : Standing → List ℕ → List ℕ → List ℕ
standing_bytes s farm association = bytes_from s.sheet s.part farm association

-- the text itself; empty where no sheet has that line, and where the question is refused
abbrev pub standing_text : ℕ → List ℕ → List ℕ → List ℕ
standing_text n farm association = standing_bytes (standing_of n farm association) farm association
