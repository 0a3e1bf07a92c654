-- Document 01, "Wet slips": "The listing program reads one line, an IBAN or a model, one space and a reference, and writes the count and the
-- filled texts, or `refused` and the number (the first space divides; no LF is 1)."
use Rattle.std.specs.Prelude.{ℕ, cond, List, [], ◌∷◌, ◌++◌, ltb, length, Result, Ok, Err}
use Rattle.refusal.specs.declared.Refusal.{Refusal}
use Rattle.refusal.specs.Basics.{spelt}
use Rattle.refusal.specs.Refusal.{none, refusal_number}
use Rattle.refusal.specs.declared.Refusal.TheVariants.{Size}
use Rattle.line.specs.Line.{has, line_of, head_of, tail_of}
use Rattle.account.specs.Answers.{is_iban}
use Rattle.filling.specs.Filling.{fill}
use Rattle.fillings.specs.Fillings.{fillings}
use Rattle.wet.specs.Wet.{iban_listing, reference_listing, reference_fillings}
use Rattle.printed.specs.Printed.{decimal, counted, refused_word}

-- ---------------------------------------------------------------------------
-- What is answered to an input

-- "one line, an IBAN or a model, one space and a reference"; "the first space divides; no LF is 1"
unfoldable pub line_listing : List ℕ → ℕ → Result ℕ Refusal
line_listing s room =
    cond (has 10 s)
    (cond (has 32 (line_of s)) (reference_listing (head_of s) (tail_of s) room) (iban_listing (head_of s) room))
    (Err (Size none))

-- the numbers of its fillings
unfoldable pub line_fillings : List ℕ → List ℕ
line_fillings s = cond (has 32 (line_of s)) (reference_fillings (head_of s) (tail_of s)) (fillings is_iban (head_of s))

-- the text that they fill: the reference, or the IBAN
unfoldable pub wet_text : List ℕ → List ℕ
wet_text s = cond (has 32 (line_of s)) (tail_of s) (head_of s)

-- ---------------------------------------------------------------------------
-- What is written

-- behind the count
abbrev pub fillings_word : List ℕ
fillings_word = spelt " fillings\n"

-- "writes the count", `10 fillings`, "or `refused` and the number", `refused 1`; and a line feed
unfoldable pub first_line : Result ℕ Refusal → List ℕ
first_line (Ok n) = decimal n ++ fillings_word
first_line (Err r) = counted refused_word (refusal_number r) ++ (10 ∷ [])

-- a filled text, and a line feed
abbrev pub filled_line : List ℕ → ℕ → List ℕ
filled_line text k = fill text k ++ (10 ∷ [])

-- what is put of it: nothing where there is no room for the text
abbrev pub line_in_room : List ℕ → ℕ → ℕ → List ℕ
line_in_room text k room = cond (ltb room (length text)) [] (filled_line text k)

-- "and the filled texts", a line for each number
unfoldable pub filled_lines : List ℕ → List ℕ → List ℕ
filled_lines text [] = []
filled_lines text (k ∷ ks) = filled_line text k ++ filled_lines text ks

-- all that is written of an answer, a text and its numbers: a refusal has no filled texts
unfoldable pub answer_printed : Result ℕ Refusal → List ℕ → List ℕ → List ℕ
answer_printed (Ok n) text ks = first_line (Ok n) ++ filled_lines text ks
answer_printed (Err r) text ks = first_line (Err r)

-- the whole output; there is room for the ten thousand numbers of four digits
abbrev pub listing_printed : List ℕ → List ℕ
listing_printed s = answer_printed (line_listing s 10000) (wet_text s) (line_fillings s)
