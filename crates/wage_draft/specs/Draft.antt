-- Document 01, "The wage file", the writer: "the judge's for the fields, 4 (another length) first in each".
use Rattle.std.specs.Prelude.{ℕ, ◌≡◌, cond, List, [], ◌∷◌, map, eqb, length, replicate, Ok, Err}
use Rattle.refusal.specs.Refusal.{Answer, none}
use Rattle.std.proofs.lemmas.List.Edits.{sets}
use Rattle.refusal.specs.declared.Refusal.TheVariants.{Size, Length}
use Rattle.wage_places.specs.declared.LineType.{LineType}
use Rattle.wage_places.specs.declared.Spot.{Spot}
use Rattle.wage_places.specs.Places.{spots, part_at}
use Rattle.wage_fields.specs.Rules.{place_answer}
use Rattle.bare_line.specs.Bare.{bare_line}

-- ---------------------------------------------------------------------------
-- Fields put at their places

-- a line being written, and whether its fields so far are right
pub record Draft : Type 0 where
  pub answer : Answer
  pub line : List ℕ

-- "4 (another length)", at the field's first byte
abbrev pub wrong_length : Spot → Answer
wrong_length p = Err (Length (record { line = 0; field = p.field; byte = p.start }))

-- a field of the right length is put at its place and judged there
abbrev pub placed : ℕ → ℕ → LineType → Spot → List ℕ → List ℕ → Draft
placed day kind t p f line =
    cond (eqb (length f) p.size)
    (record { answer = place_answer day kind t p (sets line p.start f); line = sets line p.start f })
    (record { answer = wrong_length p; line = line })

-- after a refusal nothing more is put
abbrev pub going_on : Answer → Draft → Draft → Draft
going_on (Ok u) d next = next
going_on (Err r) d next = d

-- fields at places in order; a field that is not there is an empty one
unfoldable pub drafted : ℕ → ℕ → LineType → List Spot → List (List ℕ) → List ℕ → Draft
drafted day kind t [] fs line = record { answer = Ok tt; line = line }
drafted day kind t (p ∷ ps) [] line =
    going_on (placed day kind t p [] line).answer (placed day kind t p [] line) (drafted day kind t ps [] (placed day kind t p [] line).line)
drafted day kind t (p ∷ ps) (f ∷ fs) line =
    going_on (placed day kind t p f line).answer (placed day kind t p f line) (drafted day kind t ps fs (placed day kind t p f line).line)

-- a draft made in scratch room: a line that has not 1,002 bytes is 1, and a refusal leaves the line as it was
unfoldable pub in_scratch : List ℕ → Draft → Draft
in_scratch line d =
    cond (eqb (length line) 1002) (going_on d.answer (record { answer = d.answer; line = line }) d) (record { answer = Err (Size none); line = line })

-- ---------------------------------------------------------------------------
-- A line's own fields

-- the bytes of each place of a line, in order
abbrev pub parts_of_line : LineType → List ℕ → List (List ℕ)
parts_of_line t s = map (λ (p : Spot). part_at p s) (spots t)

-- how many bytes each place has
abbrev pub sizes_of : LineType → List ℕ
sizes_of t = map (λ (p : Spot). p.size) (spots t)

-- a line with blanks at some places
unfoldable pub blanked : List Spot → List ℕ → List ℕ
blanked [] s = s
blanked (p ∷ ps) s = blanked ps (sets s p.start (replicate p.size 32))

-- "the same where those places held that": with its fields blanked, a line is the one without fields
abbrev pub PlainElsewhere : LineType → List ℕ → Type 0
PlainElsewhere t s = blanked (spots t) s ≡ bare_line t

-- ---------------------------------------------------------------------------
-- Claims

-- a call that answers and leaves a line as a draft says
pub record Drafts (d : Draft) (r : Answer) (after : List ℕ) : Type 0 where
  pub answers : r ≡ d.answer
  pub leaves : after ≡ d.line

-- one that answers as a draft says, and leaves its line where it is accepted
pub record DraftsRight (d : Draft) (r : Answer) (after : List ℕ) : Type 0 where
  pub answers : r ≡ d.answer
  pub leaves : r ≡ Ok tt → after ≡ d.line
