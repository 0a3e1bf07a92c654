-- Document 01, "The wage file": what only a 309 holds, each kind of content once, as a verdict. Within a field 3 with its byte, 5, 7, 8, 9.
-- "3 is also given .. in a reference for one not digit, hyphen or trailing blank; in a description. Every other wrong byte or content is 5."
use Rattle.std.specs.Prelude.{ℕ, Bool, true, false, cond, not, ◌&&◌, ◌||◌, List, eqb, length, get_or, Option, Some, None}
use Rattle.verdict.specs.Verdict.{Verdict, passed, only_if}
use Rattle.verdict.specs.declared.Fault.{Fault}
use Rattle.text.specs.Bytes.{all_of, trimmed}
use Rattle.classes.specs.declared.Class.TheVariants.{Digits, Reference, Letters, Blanks, Description}
use Rattle.model_text.specs.Texts.{model_number, model_from}
use Rattle.reference.specs.Answers.{number_verdict}
use Rattle.codes.specs.Codes.{is_code}
use Rattle.sums.specs.Sums.{number_in}
use Rattle.order_contents.specs.declared.Held.{Held}
use Rattle.order_contents.specs.declared.Held.TheVariants.{Blank, NoModel, Number}
use Rattle.wage_contents.specs.Contents.{one_of, tested}

-- ---------------------------------------------------------------------------
-- Purpose, sign

-- "blank or four letters A to Z"
unfoldable pub purpose_place_verdict : List ℕ → Verdict
purpose_place_verdict f = only_if (all_of Blanks f || all_of Letters f) Fault.Form

-- "547 blank, 0 or 3 and 548 blank or 0, all else 5": one of three bytes
unfoldable pub sign_verdict : ℕ → ℕ → ℕ → List ℕ → Verdict
sign_verdict a b c f = only_if (one_of a b c (get_or f 0 0)) Fault.Form

-- ---------------------------------------------------------------------------
-- Model and reference

-- a model's number, or none
abbrev pub held_from : Option ℕ → Held
held_from (Some n) = Number n
held_from None = NoModel

-- what a model's place holds
unfoldable pub held_in : List ℕ → Held
held_in m = cond (all_of Blanks m) Blank (held_from (model_number m))

-- whether that is nothing
abbrev pub held_blank : Held → Bool
held_blank Blank = true
held_blank NoModel = false
held_blank (Number n) = false

-- "model": a model's place by what it holds
unfoldable pub held_verdict : Held → Verdict
held_verdict Blank = passed
held_verdict NoModel = model_from None
held_verdict (Number n) = model_from (Some n)

-- "A blank model needs a blank reference, else 8": a reference without its last blanks, by what its model's place holds
abbrev pub bare_held : Held → List ℕ → Verdict
bare_held Blank g = tested Reference g (eqb (length g) 0) Fault.Parts
bare_held NoModel g = number_verdict g None
bare_held (Number n) g = number_verdict g (Some n)

-- "Trailing blanks end a reference"
unfoldable pub reference_held : Held → List ℕ → Verdict
reference_held h f = bare_held h (trimmed f)

-- ---------------------------------------------------------------------------
-- Description, code

-- "description", "not all blank"
unfoldable pub description_verdict : List ℕ → Verdict
description_verdict f = tested Description f (not (all_of Blanks f)) Fault.Form

-- "a code of 004's list"; "For kind 5, code 500 with a blank recipient's model is 5"
unfoldable pub code_verdict : ℕ → Bool → List ℕ → Verdict
code_verdict kind blank f = tested Digits f (is_code (number_in f) && not (eqb kind 5 && (eqb (number_in f) 500 && blank))) Fault.Form
