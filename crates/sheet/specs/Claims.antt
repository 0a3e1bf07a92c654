-- What is claimed of sheets (proofs/Theorems.antt): a sheet written from a list of fields, and what a right sheet is.
use Rattle.std.specs.Prelude.{ℕ, ◌+◌, ◌<◌, ◌≤◌, ◌≡◌, Bool, true, false, cond, List, [], ◌∷◌, ◌++◌, map, eqb, ltb, length, take, drop, Option, Some, None}
use Rattle.verdict.specs.Verdict.{passed}
use Rattle.text.specs.declared.Part.{Part}
use Rattle.text.specs.Split.{split}
use Rattle.text.specs.Lines.{join_lines, lines_among}
use Rattle.slip_fields.specs.declared.Currency.TheVariants.{Euro}
use Rattle.slip_fields.specs.Fields.{field_verdict}
use Rattle.sheet.specs.Sheet.{is_standing, line_number, line_text}

-- a field of a sheet: its number and its text
pub record FieldLine : Type 0 where
  pub number : ℕ
  pub text : List ℕ

-- a number as it is written, "no leading zero": `4` is 52, `1` 49, and `13` is 49 and 51
abbrev pub number_text : ℕ → List ℕ
number_text n = cond (ltb n 10) ((48 + n) ∷ []) (49 ∷ ((38 + n) ∷ []))

-- "`number=text` with LF"
abbrev pub line_of : FieldLine → List ℕ
line_of l = number_text l.number ++ (61 ∷ l.text)

-- a sheet written from a list of fields
abbrev pub sheet_text : List FieldLine → List ℕ
sheet_text ls = join_lines (map (λ (l : FieldLine). line_of l) ls)

-- fields that a sheet may have behind one of the number `last`
pub data RightLines : ℕ → List FieldLine → Type 0 where
  none : {last : ℕ} → RightLines last []
  more :
      {last : ℕ} {l : FieldLine} {ls : List FieldLine} → last < l.number → is_standing l.number ≡ true → field_verdict Euro l.number [] l.text ≡ passed
      → RightLines l.number ls → RightLines last (l ∷ ls)

-- the field that a line is
abbrev pub field_of : List ℕ → FieldLine
field_of p = record { number = line_number p; text = line_text p }

-- the fields of a sheet
abbrev pub fields_in : List ℕ → List FieldLine
fields_in s = map (λ (p : List ℕ). field_of p) (lines_among (split 10 s))

-- the text of field n among some fields; empty where it is not there
unfoldable pub text_among : ℕ → List FieldLine → List ℕ
text_among n [] = []
text_among n (l ∷ ls) = cond (eqb l.number n) l.text (text_among n ls)

-- whether it is there
unfoldable pub is_among : ℕ → List FieldLine → Bool
is_among n [] = false
is_among n (l ∷ ls) = cond (eqb l.number n) true (is_among n ls)

-- a part of a sheet is a text: it lies within it, and those are its bytes; no part is the empty text
abbrev pub StandsAs : Option Part → List ℕ → List ℕ → Type 0
StandsAs (Some p) s t = (p.start + p.length ≤ length s) × (take p.length (drop p.start s) ≡ t)
StandsAs None s t = t ≡ []

-- whether there is a part
abbrev pub is_held : Option Part → Bool
is_held (Some p) = true
is_held None = false

-- line k is the first malformed one: those before it are right fields, and no right field behind them is it
pub record FirstMalformed (s : List ℕ) (k : ℕ) : Type 0 where
  pub before : List FieldLine
  pub rest : List ℕ
  pub right : RightLines 0 before
  pub counted : k ≡ length before + 1
  pub whole : s ≡ sheet_text before ++ rest
  pub there : rest ≡ [] → ⊥
  pub wrong : (l : FieldLine) (t : List ℕ) → RightLines 0 (before ++ (l ∷ [])) → rest ≡ line_of l ++ (10 ∷ t) → ⊥
